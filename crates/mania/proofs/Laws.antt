-- `Singles`: the single-object entry, from what its object's rule came to.
pub mod Singles
