-- What proofs of this crate and of others cite: rules played from a state (`Play`; `On` for those of one object), what they give (`Gives`),
-- single draws (`Took`), ranges and fractions (`Range`, `Unit`), and allowances (`Allowance`).
pub mod Play
pub mod Gives
pub mod On
pub mod Took
pub mod Range
pub mod Unit
pub mod Allowance
pub mod Try
