-- A note more in the buffer is a note more in the pattern that it means. Assumes nothing.
use mathlib.Core.Path.{◌≡◌, ◌∙◌}
use Prim.Native.Nat.{ℕ, ◌+◌, ◌%◌, ◌^◌, ◌≤◌, ◌<◌}
use native.Mathlib.Omega.{arith}
use mathlib.Core.Bool.{true, false}
use mathlib.Core.List.{List}
use lib.Bits.{bit_or}
use lib.ListN.{length, set}
use Rattle.random.specs.Play.{found, refused, play, on}
use Rattle.random.specs.declared.Draws.{Draws}
use Rattle.mania.specs.declared.Note.{Note}
use Rattle.mania.specs.declared.HitObjectPatternGenerator.{HitObjectPatternGenerator}
use Rattle.mania.specs.Pattern.{Pattern, free, put}
use Rattle.mania.specs.HitObject.{add_note, add_one}
use Rattle.pattern.specs.Laws.Adds.{add_on, add_off}
use Rattle.pattern.specs.Laws.Words.{one_more}
use Rattle.pattern.specs.Answers.{pattern}
use Rattle.circle_notes.specs.Answers.{circle_at}
use Rattle.pattern.specs.declared.Pattern as Lent

module _ (g : HitObjectPatternGenerator) (c : ℕ) (d : Draws) where
  pub note_off : (p : Pattern Note) → g.columns ≤ c → on (add_note g c p) d ≡ refused 10 d
  unfolding add_note
  note_off p h = add_off _ _ _ _ _ h

  pub note_on_law : (words : List ℕ) (p : Lent.Pattern) (m : ℕ) → g.columns ≤ 9 → c < g.columns → p.count < length words → m ≡ bit_or p.mask (2 ^ c)
      → on (add_note g c (pattern (circle_at g.start) words p)) d
      ≡ found (pattern (circle_at g.start) (set words p.count c) (record { mask = m; last = c; count = p.count + 1 })) d
  unfolding add_note pattern put circle_at
  note_on_law words p m n h l e =
      let own : c % 2 ^ 4 ≡ c = omega arith in
      add_on _ _ _ _ _ h
      ∙ rw (e, one_more (circle_at g.start) words p.count c l, own)

  module _ (i : ℕ) (p : Pattern Note) where
    pub one_free : free g.mask i ≡ true → on (add_one g i c p) d ≡ found p d
    unfolding add_one play
    one_free f = rw f

    pub one_taken : free g.mask i ≡ false → on (add_one g i c p) d ≡ on (add_note g c p) d
    unfolding add_one
    one_taken f = rw f
