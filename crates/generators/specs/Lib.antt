pub mod Answers
pub mod Circle
pub mod Slider
pub mod Spinner
