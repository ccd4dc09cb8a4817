-- Laws that proofs cite.
pub mod Times
pub mod Notes
pub mod Text
pub mod Chart
