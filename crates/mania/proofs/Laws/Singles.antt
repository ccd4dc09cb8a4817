-- The single-object entry, from what its object's rule came to from the state that was lent. Assumes nothing.
use Rattle.std.specs.Prelude.{◌≡◌, refl, true, false, List, ltb, length}
use Rattle.std.proofs.Math.Path.{sym, ap}
use Rattle.std.proofs.Common.{◌∙◌, eq-eqb, ne_eqb}
use Prim.Native.Nat.{ℕ, ◌-◌, max, ◌*◌}
use Rattle.rules.specs.Numbers as Numbers
use Rattle.rules.specs.Rule.{ended, run}
use Rattle.rules.specs.Ledger.{longest}
use Rattle.rules.specs.Refusal.{number, spent_number, ObjectRule}
use Rattle.random.specs.Generator.{values, steps}
use Rattle.random.specs.Play.{Answer, found, refused, tallied, on, play}
use Rattle.random.specs.declared.Random.{Random}
use Rattle.random.specs.declared.Draws.{Draws}
use Rattle.random.specs.Laws.Play.{placed, play_run}
use Rattle.random.specs.Laws.On.{found_bind, refused_bind}
use Rattle.random.specs.Laws.Allowance.{found_run, refused_run}
use Rattle.model.specs.declared.Object.{Object}
use Rattle.mania.specs.declared.Facts.{Facts}
use Rattle.mania.specs.declared.PrevValues.{PrevValues}
use Rattle.mania.specs.Made.{Made}
use Rattle.mania.specs.Object.{object}
use Rattle.mania.specs.Chart.{body, written}
use Rattle.mania.specs.Single.{made, with_room, entry_refusal, refusing, ending, single_object}
use Rattle.chart.specs.Layout.{note_size}

-- where a rule ended, the state has made as many steps as draws are gone
module _ {A : Type 0} (m : ObjectRule A) (d : Draws) where
  abbrev after : A → Answer ℕ A → A × Draws
  after a (found b e) = (b, e)
  after a (refused x e) = (a, e)

  stepped : (a : A) (e : Draws) → on m d ≡ found a e → e.random ≡ steps (d.tally.left - e.tally.left) d.random
  unfolding placed
  stepped a e h =
      let u = (found_run (λ p. spent_number) number m d a e h).0 in
      let most = max d.tally.longest (longest m (values d.tally.left d.random)) in
      let same : found a e ≡ placed {P = Unit {0}} (λ p. spent_number) number d.tally.left most d.random (ended a (d.tally.left - e.tally.left)) =
      sym h ∙ play_run (λ p. spent_number) number m d.tally.left d.tally.longest d.random ∙ ap (placed (λ p. spent_number) number d.tally.left most d.random) u in
      ap (λ (x : Answer ℕ A). (after a x).1.random) same

module _ (f : Facts) (v : PrevValues) (columns : ℕ) (o : Object) (r : Random) (a : ℕ) (buffer : List ℕ) where
  abbrev lent : Draws
  lent = tallied a 0 r

  -- a check fails
  pub single_checked : (entry_refusal f v columns o ≡ 0 → ⊥) → single_object f v columns o r a buffer ≡ refusing (entry_refusal f v columns o) r buffer
  unfolding single_object
  single_checked n = rw (ne_eqb (entry_refusal f v columns o) 0 n)

  module _ (passes : entry_refusal f v columns o ≡ 0) where
    abbrev roomy : ObjectRule Made
    roomy = with_room f v columns o (length buffer)

    -- the checks pass: the object's rule, with room
    pub by_rule : single_object f v columns o r a buffer ≡ ending r buffer (run roomy (values a r))
    unfolding single_object
    by_rule = rw (eq-eqb (entry_refusal f v columns o) 0 passes)

    stopped : (x : ℕ) (e : Draws) → on roomy lent ≡ refused x e → single_object f v columns o r a buffer ≡ refusing x r buffer
    unfolding ending
    stopped x e h = by_rule ∙ (refused_run (λ p. spent_number) number roomy lent (ending r buffer) (λ y n. refusing y r buffer) (λ p n. refl) (λ k n. refl) x e h).0

    -- the object's rule is refused, or spent
    pub single_refused : (x : ℕ) (e : Draws) → on (object f v columns o) lent ≡ refused x e → single_object f v columns o r a buffer ≡ refusing x r buffer
    unfolding with_room
    single_refused x e h = stopped x e (refused_bind (object f v columns o) _ lent x e h)

    -- its notes are too long for the buffer: 11
    pub single_full : (m : Made) (e : Draws) → on (object f v columns o) lent ≡ found m e → ltb (length buffer) (note_size * length m.notes) ≡ true
        → single_object f v columns o r a buffer ≡ refusing Numbers.chart_too_short r buffer
    unfolding with_room play
    single_full m e h l = stopped 11 e (found_bind (object f v columns o) _ lent m e h ∙ rw l)

    -- it made its notes
    pub single_made : (m : Made) (e : Draws) → on (object f v columns o) lent ≡ found m e → ltb (length buffer) (note_size * length m.notes) ≡ false
        → single_object f v columns o r a buffer
        ≡ record { answer = made (length m.notes) m.mask m.last m.stair e.random (a - e.tally.left); notes = written (body 0 m.notes) buffer }
    unfolding with_room play ending
    single_made m e h l =
        let k : on roomy lent ≡ found m e = found_bind (object f v columns o) _ lent m e h ∙ rw l in
        by_rule ∙ ap (ending r buffer) (found_run (λ p. spent_number) number roomy lent m e k).0
        ∙ ap (λ (s : Random). record { answer = made (length m.notes) m.mask m.last m.stair s (a - e.tally.left); notes = written (body 0 m.notes) buffer }) (sym (stepped roomy lent m e k))
