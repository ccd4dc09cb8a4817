pub mod Objects
pub mod Loop
