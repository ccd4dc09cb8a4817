-- The settings of an accepted record (`Accepted`), and laws for callers.
pub mod Accepted
pub mod Laws
pub mod Difficulty
