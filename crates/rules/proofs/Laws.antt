-- What holds of every rule, for proofs of this crate and of others: `Cut` on lists that begin alike, `Refuses` on what it refuses by,
-- `Ledger` on the values of its searches, `Limited` on their limits.
pub mod Cut
pub mod Refuses
pub mod Ledger
pub mod Limited
