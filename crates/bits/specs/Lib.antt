-- Bit fields of a byte list (`Field`), and laws for proofs (`Laws`).
pub mod Field
pub mod Laws
