-- What the proofs cite of the nearest note.
pub mod Nearest
