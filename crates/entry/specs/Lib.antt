-- What the checks' contracts cite beside the definition. `Laws`: the checks leave only values that the generators take.
pub mod Parts
pub mod Laws
