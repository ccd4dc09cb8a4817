-- What a job gives on the bytes of a record, and what is claimed of it.
pub mod Job
pub mod Demand
pub mod Read
pub mod Refusals
pub mod NeverBlocked
pub mod Largest
