-- The generator (`Generator`), rules played from a state (`Play`), what the answers of the code mean (`Answers`), the claim on allowances (`Lawful`),
-- laws for proofs (`Laws`) and worked examples (`Rows`).
pub mod Generator
pub mod Play
pub mod Answers
pub mod Lawful
pub mod Laws
pub mod Rows
