pub mod Words
pub mod Decks
pub mod Loops
pub mod Order
pub mod Ends
