-- The job record: where its parts stand (`Layout`); its fields in record order, each with its condition (`Refusal`, `Header`, `Section`, `Object`), and `parse` (`Record`);
-- all fields as one list (`Fields`); what an accepted song is (`Fit`); how points in force are found (`Lookup`); parts of contracts (`Post`); laws for proofs (`Laws`).
pub mod Layout
pub mod Refusal
pub mod Header
pub mod Section
pub mod Object
pub mod Record
pub mod Lookup
pub mod Post
pub mod Fit
pub mod Fields
pub mod Laws
