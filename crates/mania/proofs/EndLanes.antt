-- A spinner or a hold makes one note, of which P holds where it holds of that note on each column. Assumes nothing.
use Prim.Native.Nat.{ℕ, ◌<◌}
use mathlib.Core.Bool.{◌&&◌}
use lib.Dec.{eqb}
use lib.Ieee.{Float, lt}
use Rattle.mania.specs.declared.PrevValues.{PrevValues}
use Rattle.mania.specs.declared.Note.{Note}
use Rattle.model.specs.declared.Object.{Object}
use Rattle.mania.specs.Steps.{double}
use Rattle.model.specs.Sound.{finish, has_flag}
use Rattle.mania.specs.Pattern.{empty, put}
use Rattle.mania.specs.PatternGenerator.{random_start}
use Rattle.mania.specs.EndTimeObject
use Rattle.mania.specs.Demand.{Each, Lanes}
use Rattle.mania.proofs.Makes.{Makes, giving, seq, less, by, added}
use Rattle.mania.proofs.Columns.{find_draw, column_makes}

some_column : (v : PrevValues) (columns : ℕ) (o : Object) (lasts : Float) → Makes (λ c. Unit {0}) (EndTimeObject.note_column v columns o lasts)
unfolding EndTimeObject.note_column EndTimeObject.end_column
some_column v columns o lasts =
    by (eqb columns 8 && has_flag o.sound finish && lt lasts (double 1000 1)) _ _ (λ e. giving tt)
    (λ e. seq (column_makes (λ c. Unit {0}) (random_start columns) columns (λ v l. tt))
    (λ c u. less (find_draw (λ d. Unit {0}) columns (random_start columns) columns _ (λ v l. tt) c tt) (λ d h. tt)))

module _ (v : PrevValues) (columns : ℕ) (o : Object) (duration : Float) (P : Note → Type 0)
    (fine : (c : ℕ) → c < columns → P (EndTimeObject.end_note o (EndTimeObject.lasting o duration) c)) where
  pub end_lanes : Makes (λ made. Lanes made.notes × Each P made.notes) (EndTimeObject.generate v columns o duration)
  unfolding EndTimeObject.generate put empty
  end_lanes =
      seq (some_column v columns o (EndTimeObject.lasting o duration))
      (λ c u. seq {P = λ p. Lanes p.notes × Each P p.notes} (added columns _ c empty (λ l. ((tt, tt), (fine c l, tt)))) (λ p h. giving h))
