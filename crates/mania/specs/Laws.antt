-- What code of other crates needs of these rules: `Walks`, the walk one object at a time; `Singles`, what the single-object entry's checks leave; `Tests`, tests joined;
-- `SliderTimes`, the end of a slider.
pub mod Tests
pub mod SliderTimes
pub mod Walks
pub mod Singles
