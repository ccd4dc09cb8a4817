-- What `hitobjects` prints for an input (`Printed`), and laws for its proofs.
pub mod Printed
pub mod Laws
