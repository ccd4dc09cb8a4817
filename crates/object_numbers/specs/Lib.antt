-- An object's values from a host's numbers, and its answer as numbers.
pub mod Single
