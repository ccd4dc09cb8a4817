-- `Lines` and `Reading` are the definitions that the contracts cite: the text of a chart, and what a text is read as. `Told` has the code's answers.
-- `Laws` is for proofs, of this crate and of others, and `Rows` has worked examples.
pub mod Lines
pub mod Reading
pub mod Told
pub mod Laws
pub mod Rows
