-- A generator's result by value, and its result when the state is lent as `&mut Random`. Assumes nothing.
use Rattle.std.specs.Prelude.{Result, Ok, Err}
use Rattle.random.specs.declared.Random.{Random}
use Rattle.random.specs.declared.Tally.{Tally}
use Rattle.random.specs.declared.Draws.{Draws}
use Rattle.random.specs.declared.Refused.{Refused}
use Rattle.pattern.specs.declared.Made.{Made}
use Rattle.generators.specs.declared.LentRefused.{LentRefused}

abbrev pub LentEnd : Type 0
LentEnd = Result (Made × Tally) LentRefused

-- by value
abbrev pub End : Type 0
End = Result (Made × Draws) Refused

-- with the state that it left
abbrev pub whole : Random → LentEnd → End
whole r (Ok (m, n)) = Ok (m, record { random = r; tally = n })
whole r (Err e) = Err (record { refusal = e.refusal; draws = record { random = r; tally = e.tally } })
