-- `Text` has the definitions, `Laws` what proofs cite, and `Rows` worked examples.
pub mod Text
pub mod Laws
pub mod Rows
