-- What the answers of a job mean (`Ends`), what holds of them (`Demand`), and of the difficulty that its walk is given (`Difficulty`); that the
-- single-object entry takes an accepted song's objects (`EntryPasses`).
pub mod Ends
pub mod Demand
pub mod Difficulty
pub mod EntryPasses
