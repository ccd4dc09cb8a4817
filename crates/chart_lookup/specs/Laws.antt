-- What the proofs cite.
pub mod Notes
pub mod Places
pub mod Times
pub mod Wanted
