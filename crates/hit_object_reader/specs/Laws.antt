-- Laws that proofs cite: of numbers and words, of a line, of the lines of a text, and of what is written and read back.
pub mod Parts
pub mod Rows
pub mod Texts
pub mod Back
pub mod Wells
pub mod Made
pub mod Indices
