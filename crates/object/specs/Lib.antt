pub mod Notes
pub mod Contract
