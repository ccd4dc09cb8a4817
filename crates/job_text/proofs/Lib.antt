-- A job that ended, from the code's answer (`Ended`), and room for its sheet (`Room`).
pub mod Ended
pub mod Room
