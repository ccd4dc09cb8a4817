-- What a host in C gets.
pub mod Numbers
pub mod Notes
pub mod Announced
pub mod Lookups
pub mod Sheets
pub mod HitObjects
