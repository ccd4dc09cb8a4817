-- The check of a record, part by part.
pub mod Checks
