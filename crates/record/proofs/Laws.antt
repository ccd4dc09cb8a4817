-- What proofs of this crate and of others cite: `Ranges` on accepted records, `Known` on what `check_record` returns.
pub mod Ranges
pub mod Known
