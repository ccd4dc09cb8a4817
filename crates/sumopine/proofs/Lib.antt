-- Laws for the C exports: `Cut`, numbers above what their field can hold; `Headers`, the draws in the header of a job's chart; `Notes`, the indices of
-- its notes.
pub mod Cut
pub mod Headers
pub mod Notes
