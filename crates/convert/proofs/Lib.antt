pub mod Songs
pub mod Jobs
pub mod Demand
pub mod EntryPasses
pub mod Difficulty
