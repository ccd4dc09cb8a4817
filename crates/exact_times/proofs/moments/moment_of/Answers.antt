-- `exact_times::moments::moment_of` meets its contract: the pattern of a finite f64, by its sign.
-- Assumes nothing.
use borrow.Author.Rules.{rules}
use mathlib.Core.Path.{◌≡◌, sym, ap, ◌∙◌, subst}
use mathlib.Core.Bool.{true}
use lib.Dec.{T}
use lib.Ieee.{binary64, of_bits}
use lib.Ieee.Bits.{of_bits-to_bits}
use lib.Ieee.Scale.{finite}
use Rattle.chart.specs.Time.{time}
use Rattle.exact_times.specs.Laws.Instants.{plus_tells, zero_tells, minus_tells}
use Rattle.exact_times.proofs.moments.moment_of.Goals as goal
use Rattle.exact_times.proofs.moments.moment_of.Goals.{After-f64_to_bits_with_nan-b}

-- the pattern is read back
read : (c : After-f64_to_bits_with_nan-b) → time c.f64_to_bits_with_nan-b.result ≡ c.args.at.t
read c = ap (of_bits binary64) c.f64_to_bits_with_nan-b.ensures ∙ of_bits-to_bits binary64 c.args.at.t (subst T (sym c.well_formed.0.1.1.0.1) tt)

still : (c : After-f64_to_bits_with_nan-b) → finite (time c.f64_to_bits_with_nan-b.result) ≡ true
still c = ap finite (read c) ∙ c.args.at.is_finite

pub returns-then-b-lt-SIGN_BIT : goal.returns-then-b-lt-SIGN_BIT
returns-then-b-lt-SIGN_BIT c = rw (read (goal.at.returns-then-b-lt-SIGN_BIT c).After-f64_to_bits_with_nan-b) at (plus_tells _ (still (goal.at.returns-then-b-lt-SIGN_BIT c).After-f64_to_bits_with_nan-b) c.if-b-lt-SIGN_BIT.true)

pub returns-then-b : goal.returns-then-b
returns-then-b c = rw (read (goal.at.returns-then-b c).After-f64_to_bits_with_nan-b) at (rw (← c.if-b.true) at zero_tells)

pub returns : goal.returns
returns c = rw (read (goal.at.returns c).After-f64_to_bits_with_nan-b) at (minus_tells _ (still (goal.at.returns c).After-f64_to_bits_with_nan-b) (search rules) (search rules))
