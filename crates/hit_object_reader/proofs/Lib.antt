-- What the loops keep (`Loops`), and what survives writing and reading (`Claims`).
pub mod Loops
pub mod Claims
