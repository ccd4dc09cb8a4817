-- What the proofs of this crate and of others cite.
pub mod Rounding
pub mod Patterns
pub mod Values
pub mod Wholes
pub mod Ranges
pub mod Spans
pub mod Order
pub mod Integers
pub mod Times
pub mod Monotone
