-- What the proofs of this crate and of others cite.
pub mod Orders
pub mod Sums
pub mod Instants
pub mod Rounded
