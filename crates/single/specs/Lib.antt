-- What the answers of the single-object entry mean.
pub mod Ends
