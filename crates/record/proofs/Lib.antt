-- What holds of accepted records (`Laws`), and worked examples.
pub mod Rows
pub mod Laws
pub mod Examples
