-- What an answer of the code means. Assumes nothing.
use Rattle.std.specs.Prelude.{ℕ, Result, Ok, Err}
use Rattle.rules.specs.Coded.{code}
use Rattle.random.specs.Play.{Answer, found, refused}
use Rattle.random.specs.declared.Draws.{Draws}
use Rattle.random.specs.declared.Refused.{Refused}

-- `read` gives what a value of the code means
abbrev pub answer : {A B : Type 0} → (A → B) → Result (A × Draws) Refused → Answer ℕ B
answer read (Ok (a, d)) = found (read a) d
answer read (Err e) = refused (code e.refusal) e.draws

-- of a value that is a number
abbrev pub number : Result (ℕ × Draws) Refused → Answer ℕ ℕ
number r = answer (λ n. n) r
