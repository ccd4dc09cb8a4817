-- What proofs of this crate and of others cite: `Accepted` on accepted records, `Refusals` on each number, `Known` on what `check_record`
-- returns, `Parts` and `Objects` for a walk over the objects. More is in proofs/Laws.
pub mod Row
pub mod Widths
pub mod Entries
pub mod Counts
pub mod Objects
pub mod Songs
pub mod Parts
pub mod Accepted
pub mod Known
pub mod Refusals
