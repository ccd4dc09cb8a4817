-- For proofs of this crate and of others: `Each` is on lists. What holds of every rule is in proofs/Laws.
pub mod Each
pub mod Coded
