-- The limits of a song, a song as a value, the bits of a sound, its control points in force at a time, and what the conversion takes of its lists as a whole.
pub mod Limits
pub mod Song
pub mod Sound
pub mod ControlPoint
pub mod Totals
