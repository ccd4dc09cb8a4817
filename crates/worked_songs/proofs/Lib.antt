-- Worked songs and single objects, computed on the definition; each answer is that of the Rust.
pub mod Singles
pub mod Songs
