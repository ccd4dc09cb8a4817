-- Demand 3 of records (`Demand`), the conditions of their refusals (`Numbers`, `Refusals`), that a job's chart is read (`Read`) and how long it
-- can be (`Largest`), from what an accepted record says of its song (`Ranges`) and so of its notes (`Sliders`, `Times`).
pub mod Numbers
pub mod Times
pub mod Ranges
pub mod Sliders
pub mod Demand
pub mod Read
pub mod Refusals
pub mod Largest
