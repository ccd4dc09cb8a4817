-- What is announced with rounded figures. `Announced` has the definitions that the contracts cite; `Gathered` the columns as the code finds them; `Laws` is
-- for proofs, and `Rows` has worked examples.
pub mod Announced
pub mod Gathered
pub mod Laws
pub mod Rows
