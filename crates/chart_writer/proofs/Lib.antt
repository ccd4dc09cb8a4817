pub mod Place
pub mod Runs
pub mod Turned
