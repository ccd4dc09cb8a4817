-- A field by the nine bytes that hold it (`Words`).
pub mod Words
