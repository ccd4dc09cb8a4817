-- `Laws`: a number that its field cannot hold is refused as the field's largest value is. The numbers that are no kind's (`NoKind`), and what a host gets of an answer (`Gives`).
pub mod Laws
pub mod NoKind
pub mod Gives
