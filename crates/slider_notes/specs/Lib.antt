pub mod Words
pub mod Answers
pub mod Order
pub mod Turns
