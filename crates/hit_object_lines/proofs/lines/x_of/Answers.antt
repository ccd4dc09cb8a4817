-- `hit_object_lines::lines::x_of` meets its contract: std's quotient that is rounded up is the definition's. Assumes nothing.
use Rattle.std.proofs.Common.{◌≡◌, ℕ, ◌*◌, ◌<◌, sym, ◌∙◌, arith}
use Rattle.std.proofs.Math.Nat.{div-eq_of_lt-le}
use Rattle.std.proofs.lemmas.Grind.{div_ceil_times}
use Rattle.std.specs.Int.{div_ceil}
use Rattle.floats.specs.Whole.{above}
use Rattle.hit_object_lines.specs.Lines.{x_of}
use Rattle.hit_object_lines.proofs.lines.x_of.Goals as goal

ceil_above : (a b : ℕ) → 0 < b → div_ceil a b ≡ above a b
unfolding above
ceil_above a b l =
    let k : ℕ = div_ceil a b in
    let bounds = div_ceil_times a b l in
    sym (div-eq_of_lt-le {k = k} b (omega (arith, bounds.1)) (omega (arith, bounds.0)))

pub returns : goal.returns
unfolding x_of
returns c = c.div_ceil.ensures ∙ rw (c.from.ensures, c.from-2.ensures) (ceil_above (c.args.column * 512) c.args.columns c.requires)
