use Prim.Native.Nat.{ℕ}
use Rattle.chart.specs.declared.Note as Patterns
use Rattle.mania.specs.Chart.{pattern_of}
use Rattle.slider_notes.specs.Words.{note_of_word}
use Rattle.notes.proofs.Written.{Wrote}
use Rattle.notes.proofs.put_slider_notes.Given as goal

-- the row of a word
abbrev pub row : ℕ → ℕ → Patterns.Note
row i w = pattern_of i (note_of_word w)

abbrev pub invariant-loop-i : goal.invariant-loop-i
invariant-loop-i l = Wrote (row l.index) l.words l.initial.s l.s l.i
