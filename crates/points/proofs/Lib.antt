-- What the number of points passed says.
pub mod Lookups
