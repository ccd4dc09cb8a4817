-- The claims on the lookups, proved.
pub mod Claims
pub mod Laws
