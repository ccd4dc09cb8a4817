-- `walk::keep` meets its contract. Assumes nothing.
use mathlib.Core.Path.{◌≡◌, refl, sym, ap, ◌∙◌}
use mathlib.Core.List.{List, [], append-nil}
use Prim.Native.Nat.{ℕ, ◌+◌, ◌-◌}
use native.Mathlib.Omega.{arith}
use lib.ListN.{length, take, drop, length-drop}
use lib.Seq.{drop-drop, drop-length}
use borrow.Author.Tests.{lt-ltb, le-ltb}
use borrow.Rule.Slice.PartMut.{put_mid}
use Rattle.std.proofs.Common.{zero-add}
use Rattle.std.proofs.lemmas.List.{take_rest}
use Rattle.chart.specs.Layout.{chart_size}
use Rattle.chart.specs.Bytes.{splice}
use Rattle.walk.proofs.keep.Goals as goal

-- what is written at the start of the bytes from the i-th on is written at the i-th
in_tail : (s : List ℕ) (i : ℕ) (v : List ℕ) → put_mid i (length s - i) s (splice (take (length s - i) (drop i s)) 0 v) ≡ splice s i v
unfolding splice
in_tail s i v =
    let none : drop (length s - i) (drop i s) ≡ [] = ap (λ (k : ℕ). drop k (drop i s)) (sym (length-drop i s)) ∙ drop-length (drop i s) in
    rw (none, take_rest s i, append-nil, zero-add (length v), drop-drop (length v) i s) refl

pub returns-then-chart-before : goal.returns-then-chart-before
returns-then-chart-before c =
    let a = c.args in
    (lt-ltb (length a.chart.now) (chart_size (a.w.notes + a.made.pattern.count)) (omega arith), refl, refl)

pub returns : goal.returns
returns c =
    let a = c.args in (
      le-ltb (length a.chart.now) (chart_size (a.w.notes + a.made.pattern.count)) (omega arith),
      rw c.put_notes.ensures (in_tail a.chart.now (chart_size a.w.notes) _),
      c.after_object.ensures,
      refl,
    )
