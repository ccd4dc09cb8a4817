-- A step of a walk and the single-object entry are one rule. Assumes nothing.
use mathlib.Core.Path.{◌≡◌, refl, sym, ap, ◌∙◌, subst}
use Prim.Native.Nat.{ℕ, suc, ◌+◌, ◌-◌, ◌*◌, ◌≤◌, max}
use native.Mathlib.Omega.{arith}
use mathlib.Core.Bool.{Bool, true, false}
use mathlib.Core.List.{List, [], ◌∷◌}
use lib.Arith.{sub-sub_self}
use lib.Dec.{ltb}
use lib.ListN.{length}
use borrow.Author.Tests.{ltb-true, ltb-false, lt-ltb, le-ltb}
use Rattle.rules.specs.Rule.{Outcome, ended, spent, run, taken, Done}
use Rattle.rules.specs.Rule as Rule
use Rattle.rules.specs.Ledger.{longest}
use Rattle.rules.specs.Refusal.{Refusal, number, spent_number, ObjectRule}
use Rattle.random.specs.Generator.{values, steps}
use Rattle.random.specs.Play.{Answer, refused, on, tallied}
use Rattle.random.specs.declared.Random.{Random}
use Rattle.random.specs.declared.Draws.{Draws}
use Rattle.random.specs.Laws.Play.{placed, play_run}
use Rattle.random.specs.Laws.Allowance.{done_le}
use Rattle.model.specs.declared.Object.{Object}
use Rattle.mania.specs.declared.Note.{Note}
use Rattle.mania.specs.declared.Stair.{Stair}
use Rattle.mania.specs.Made.{Made}
use Rattle.mania.specs.Chart.{body, written}
use Rattle.mania.specs.Convert.{Walk, SongFacts, walk_after, after_object, walk}
use Rattle.mania.specs.Walked.{Stop, stop, on_walk}
use Rattle.mania.specs.Single.{made, refusal, Single, entry_refusal, refusing}
use Rattle.mania.specs.Single as Single
use Rattle.mania.specs.Laws.Walks.{before, walk_refused, walk_full, walk_made}
use Rattle.mania.proofs.Laws.Singles.{single_refused, single_full, single_made}
use Rattle.mania.specs.OneRule.{facts, met, rule, entry, room, here, GoesOn, OneRule}
use Rattle.mania.proofs.Eleven.{before_none}
use Rattle.chart.specs.Layout.{note_size, chart_size}

abbrev is_made : Single.Answer → ℕ
is_made (made k mask last stair s n) = 1
is_made (refusal k s) = 0

abbrev number_of : Single.Answer → ℕ
number_of (made k mask last stair s n) = 0
number_of (refusal k s) = k

-- what is left of the buffer is short for the notes exactly where the whole is short for all notes
same_room : (notes more left : ℕ) → ltb left (note_size * more) ≡ ltb (chart_size notes + left) (chart_size (notes + more))
same_room notes more left = go (ltb left (note_size * more)) refl
  where
    go : (b : Bool) → ltb left (note_size * more) ≡ b → b ≡ ltb (chart_size notes + left) (chart_size (notes + more))
    go true e = let l = ltb-true left (note_size * more) e in sym (lt-ltb (chart_size notes + left) (chart_size (notes + more)) (omega arith))
    go false e = let l = ltb-false left (note_size * more) e in sym (le-ltb (chart_size notes + left) (chart_size (notes + more)) (omega arith))

module _ (s : SongFacts) (columns i : ℕ) (w : Walk) (o : Object) (os : List Object) (d : Draws) (buffer : List ℕ) where
  abbrev own : ObjectRule Made
  own = rule s columns i w o os d buffer

  abbrev a : ℕ
  a = d.tally.left

  -- the rule from the state, with the longest search before it
  abbrev played : ℕ → Outcome (Unit {0}) Refusal Made → Answer ℕ Made
  played g x = placed (λ p. spent_number) number a (max g (longest own (values a d.random))) d.random x

  rule_is : (g : ℕ) (x : Outcome (Unit {0}) Refusal Made) → run own (values a d.random) ≡ x → on own (tallied a g d.random) ≡ played g x
  rule_is g x u = play_run (λ p. spent_number) number own a g d.random ∙ ap (played g) u

  abbrev Entry : Single
  Entry = entry s columns i w o os d buffer

  abbrev Here : Answer Stop (List (List Note))
  Here = here s columns i w o os d buffer

  abbrev Room : ℕ
  Room = room s columns i w o os d buffer

  -- the longest search so far
  abbrev most : ℕ
  most = max d.tally.longest (longest own (values a d.random))

  -- what both come to
  data Both : Type 0 where
    both_made : (m : Made) (n : ℕ) → Entry ≡ record { answer = made (length m.notes) m.mask m.last m.stair (steps n d.random) n; notes = written (body 0 m.notes) buffer }
        → Here ≡ before (m.notes ∷ []) (on_walk (walk s columns Room (suc i) (after_object (facts s columns i w o os d buffer) o (met s columns i w o os d buffer) m w) os) (tallied (a - n) most (steps n d.random))) → Both
    both_refused : (k : ℕ) (e : Draws) → Entry ≡ refusing k d.random buffer → Here ≡ refused (stop i k) e → Both

  module _ (passes : entry_refusal (facts s columns i w o os d buffer) w.prev columns o ≡ 0) where
    refused_both : (k : ℕ) (e f : Draws) → on own (tallied a 0 d.random) ≡ refused k e → on own d ≡ refused k f → Both
    refused_both k e f u v =
        both_refused k f (single_refused (facts s columns i w o os d buffer) w.prev columns o d.random a buffer passes k e u)
        (sym (before_none Here) ∙ walk_refused s columns Room i w o os d k f v [])

    both : (x : Outcome (Unit {0}) Refusal Made) → run own (values a d.random) ≡ x → Both
    unfolding placed taken
    both (Rule.refused q n) u = refused_both (number q) _ _ (rule_is 0 (Rule.refused q n) u) (rule_is d.tally.longest (Rule.refused q n) u)
    both (spent p n) u = refused_both spent_number _ _ (rule_is 0 (spent p n) u) (rule_is d.tally.longest (spent p n) u)
    both (ended m n) u = go (ltb (length buffer) (note_size * length m.notes)) refl
      where
        small : n ≤ a
        small = subst (λ (o : Outcome (Unit {0}) Refusal Made). taken o ≤ a) u (done_le own d.random a (subst Done (sym u) tt))

        go : (b : Bool) → ltb (length buffer) (note_size * length m.notes) ≡ b → Both
        go true l =
            both_refused 11 _ (single_full (facts s columns i w o os d buffer) w.prev columns o d.random a buffer passes m _ (rule_is 0 (ended m n) u) l)
            (sym (before_none Here) ∙ walk_full s columns Room i w o os d m _ (rule_is d.tally.longest (ended m n) u) (sym (same_room w.notes (length m.notes) (length buffer)) ∙ l) [])
        go false l =
            both_made m n
            (single_made (facts s columns i w o os d buffer) w.prev columns o d.random a buffer passes m _ (rule_is 0 (ended m n) u) l
            ∙ ap (λ (k : ℕ). record { answer = made (length m.notes) m.mask m.last m.stair (steps n d.random) k; notes = written (body 0 m.notes) buffer }) (sub-sub_self small))
            (sym (before_none Here) ∙ walk_made s columns Room i w o os d m _ (rule_is d.tally.longest (ended m n) u) (sym (same_room w.notes (length m.notes) (length buffer)) ∙ l) [])

  abbrev made_of : Single.Answer → ℕ × ℕ × ℕ × Stair × Random × ℕ
  made_of (made k mask last stair r n) = (k, mask, last, stair, r, n)
  made_of (refusal k r) = (0, 0, 0, w.prev.stair, r, 0)

  going : Both → (k mask last : ℕ) (stair : Stair) (r : Random) (n : ℕ) → Entry.answer ≡ made k mask last stair r n → GoesOn s columns i w o os d buffer k mask last stair r n
  unfolding refusing after_object
  going (both_refused q e u h) k mask last stair r n x = let z : ◌≡◌ {A = ℕ} 0 1 = ap is_made (sym (ap (λ (j : Single). j.answer) u) ∙ x) in absurd (omega arith)
  going (both_made m l u h) k mask last stair r n x =
      let p = ap made_of (sym (ap (λ (j : Single). j.answer) u) ∙ x) in
      record {
        notes = m.notes;
        count = sym (ap (λ (y : ℕ × ℕ × ℕ × Stair × Random × ℕ). y.0) p);
        bytes = ap (λ (j : Single). j.notes) u;
        walks = h ∙ ap (λ (y : ℕ × ℕ × ℕ × Stair × Random × ℕ). before (m.notes ∷ []) (on_walk (walk s columns Room (suc i) (walk_after (facts s columns i w o os d buffer) o (met s columns i w o os d buffer) y.1 y.2 y.3 y.0 w) os) (tallied (a - y.5) most y.4))) p;
      }

  stopping : Both → (k : ℕ) (r : Random) → Entry.answer ≡ refusal k r → (e : Draws) × (Here ≡ refused (stop i k) e)
  unfolding refusing
  stopping (both_made m l u h) k r x = let z : ◌≡◌ {A = ℕ} 1 0 = ap is_made (sym (ap (λ (j : Single). j.answer) u) ∙ x) in absurd (omega arith)
  stopping (both_refused q e u h) k r x = (e, h ∙ ap (λ (y : ℕ). refused (stop i y) e) (ap number_of (sym (ap (λ (j : Single). j.answer) u) ∙ x)))

  pub one_rule : OneRule s columns i w o os d buffer
  one_rule =
      record {
        goes_on = λ passes. going (both passes (run own (values a d.random)) refl);
        stops = λ passes. stopping (both passes (run own (values a d.random)) refl);
      }
