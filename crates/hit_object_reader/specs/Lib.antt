-- `Claims` says what survives writing and reading (proofs/Claims). `Told` has the code's answers, and `Laws` what proofs cite. What a text is read as is defined in `hit_object_lines`.
pub mod Told
pub mod Claims
pub mod Laws
