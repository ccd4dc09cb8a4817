-- The claims on the sheet, proved.
pub mod Claims
