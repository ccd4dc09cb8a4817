-- What flags decide and the rows of an object's conditions (`Objects`), and the check of the objects (`Scans`).
pub mod Objects
pub mod Scans
