use mathlib.Core.Path.{◌≡◌}
use Prim.Native.Nat.{◌-◌, ◌<◌}
use Rattle.random.specs.Play.{on}
use Rattle.mania.specs.PatternGenerator.{step_to}
use Rattle.pattern.proofs.step_to.Given as goal

abbrev pub invariant-loop : goal.invariant-loop
invariant-loop l = (l.column < l.s.columns) × (on (step_to (l.s.columns - l.counter) l.s.columns l.s.taken l.column) l.d ≡ on (step_to l.s.columns l.s.columns l.s.taken l.s.initial) l.d)
