-- The chances of the code, and the caps of a column count, as the definition has them. Assumes nothing.
use Rattle.std.specs.Prelude.{ℕ, slice_index_or}
use Rattle.mania.specs.PathObject as Path
use Rattle.slider_times.specs.declared.Chance.{Chance}

abbrev pub chances : Chance → Path.Chances
chances c = record { p2 = c.p2; p3 = c.p3; p4 = c.p4 }

unfoldable pub caps_of : ℕ → Path.Chances
caps_of columns = slice_index_or Path.caps columns (Path.percent 100 100 100)
