pub mod Bounds
pub mod Rules
