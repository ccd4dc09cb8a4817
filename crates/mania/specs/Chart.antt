-- The chart of an accepted job: its notes as the chart crate has them, and the buffer. Assumes nothing.
use Rattle.std.specs.Prelude.{ℕ, suc, List, [], ◌∷◌, ◌++◌, map, length, drop, Some}
use Rattle.std.specs.Float.{binary64}
use Rattle.std.specs.Float.Ieee.{to_bits}
use Rattle.chart.specs.declared.Version.TheVariants.{Two}
use Rattle.chart.specs.declared.Note as Patterns
use Rattle.chart.specs.Chart as Bytes
use Rattle.mania.specs.declared.Note.{Note}

-- the notes of all objects in walk order
unfoldable pub in_walk_order : List (List Note) → List Note
in_walk_order [] = []
in_walk_order (ns ∷ nss) = ns ++ in_walk_order nss

-- a note of the object at index i, by the bit patterns of its times
unfoldable pub pattern_of : ℕ → Note → Patterns.Note
pattern_of i n = record { column = n.column; hold = n.hold; origin = Some i; start = to_bits binary64 n.start; duration = to_bits binary64 n.duration }

-- the notes of each object in walk order, the first of them at index i
unfoldable pub patterns_from : ℕ → List (List Note) → List Patterns.Note
patterns_from i [] = []
patterns_from i (ns ∷ nss) = map (pattern_of i) ns ++ patterns_from (suc i) nss

-- the bytes of an object's notes, one note after another
unfoldable pub body : ℕ → List Note → List ℕ
body i ns = Bytes.body Two (map (pattern_of i) ns)

-- bytes at the start of a buffer; the bytes after them keep their values
unfoldable pub written : List ℕ → List ℕ → List ℕ
written bytes buffer = bytes ++ drop (length bytes) buffer
