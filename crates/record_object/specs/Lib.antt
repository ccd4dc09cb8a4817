-- The number of an object's kind (`Shape`).
pub mod Shape
