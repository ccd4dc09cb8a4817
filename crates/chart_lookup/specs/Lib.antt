-- Finding notes around a moment. `Lookup` and `Nearest` are the definitions that the contracts cite, and `Claims` says what they come to;
-- `Search` and `Laws` are for proofs, and `Examples` has worked examples.
pub mod Lookup
pub mod Nearest
pub mod Search
pub mod Claims
pub mod Laws
pub mod Examples
