-- `pattern::get_random_note_count` meets its contract: a draw, and what its value means. Assumes nothing.
use mathlib.Core.Path.{sym, ◌∙◌}
use Rattle.random.specs.Play.{play, value}
use Rattle.random.specs.Laws.Try.{goes_on, leaves}
use Rattle.mania.specs.PatternGenerator.{get_random_note_count}
use Rattle.pattern.proofs.get_random_note_count.Goals as goal

pub returns-in_err-v : goal.returns-in_err-v
unfolding get_random_note_count
returns-in_err-v c = leaves _ value _ _ _ _ _ _ c.draw.ensures c.in_err-v.was c.from_residual.ensures.1

pub returns : goal.returns
unfolding get_random_note_count play
returns c = sym (goes_on _ value _ _ _ _ _ c.draw.ensures c.in_ok-v.was ∙ rw (← c.next_double-val.ensures, ← c.note_count.ensures))
