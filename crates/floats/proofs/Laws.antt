-- What holds of roots, for proofs of this crate and of others: `Roots`, a root is the nearest value; `Squares`, on values whose sign is clear.
pub mod Roots
pub mod Squares
