pub mod Decks
pub mod Ready
