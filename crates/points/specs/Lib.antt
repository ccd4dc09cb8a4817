-- What a point in force is, and the times between which it is.
pub mod Lasting
