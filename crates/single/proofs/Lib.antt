-- One object, from what its generator and the chart's writer promise (`Kept`).
pub mod Kept
