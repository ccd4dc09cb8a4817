-- What the proofs of this crate and of others cite.
pub mod Times
pub mod Bytes
pub mod Notes
pub mod Reader
pub mod Order
pub mod Arranged
pub mod Merge
