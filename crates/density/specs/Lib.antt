-- The density's reading, which the contracts cite.
pub mod Queued
