use mathlib.Core.Path.{◌≡◌}
use Rattle.random.specs.Play.{on}
use Rattle.mania.specs.PatternGenerator.{draw_to}
use Rattle.pattern.specs.Laws.Searches.{draw_on}
use Rattle.pattern.proofs.draw_to.Given as goal

abbrev pub invariant-loop-made : goal.invariant-loop-made
invariant-loop-made l = draw_on l.s.lower l.s.upper l.s.taken l.made-counter l.rest ≡ on (draw_to l.s.lower l.s.upper l.s.taken) l.fn.d
