-- The rows marked M and the refusals' examples, of songs (`Rows`), document 02's two sums (`Separation`), and `charttext`'s job from its bytes (`Record`), which
-- the program `charttext` runs.
pub mod Rows
pub mod Separation
pub mod Record
