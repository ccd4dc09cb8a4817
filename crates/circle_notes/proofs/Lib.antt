pub mod Words
pub mod Loops
