-- The chart sheet. `Layout` and `Sheet` are the definitions that the contracts cite, and `Claims` says what a sheet shows; `Fits` and `Laws` are for
-- proofs, and `Rows` has worked examples.
pub mod Layout
pub mod Sheet
pub mod Fits
pub mod Claims
pub mod Laws
pub mod Rows
