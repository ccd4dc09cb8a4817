-- What the walk keeps between objects (`Kept`), and what its steps promise (`Steps`).
pub mod Kept
pub mod Steps
