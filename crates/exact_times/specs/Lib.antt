-- Exact comparison of times. `Compare` and `Instants` are the definitions that the contracts cite; `Digits` and `Laws` are for proofs.
pub mod Compare
pub mod Digits
pub mod Instants
pub mod Laws
