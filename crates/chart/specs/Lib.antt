-- The chart. `Time`, `Bytes`, `Chart`, `Order` and `Lanes` are the definitions that the contracts cite; `RoundTrip` and `Written` have the theorems on them, and `Laws/Order` those on the order.
-- `Laws` is for proofs, of this crate and of others, and `Vectors` has worked examples.
pub mod Layout
pub mod Tests
pub mod Time
pub mod Bytes
pub mod Chart
pub mod Order
pub mod Lanes
pub mod RoundTrip
pub mod Written
pub mod Laws
pub mod Vectors
