-- What the proofs of this crate and of others cite.
pub mod Searches
pub mod Adds
pub mod Bounds
pub mod Words
pub mod Tables
pub mod Exits
pub mod Mapped
