-- One object of the walk, from what its generator and the chart's writer promise. Assumes nothing.
use mathlib.Core.Path.{◌≡◌, sym, ap, ap₂, ◌∙◌, subst}
use Prim.Native.Nat.{ℕ, ◌^◌, ◌≤◌, ◌<◌}
use native.Mathlib.Nat.{le_trans}
use mathlib.Core.Bool.{true, false}
use mathlib.Core.List.{List}
use lib.ListN.{length}
use Rattle.model.specs.Limits.{most_notes}
use Rattle.random.specs.Play.{found, refused, on}
use Rattle.random.specs.declared.Draws.{Draws}
use Rattle.model.specs.declared.Object.{Object}
use Rattle.mania.specs.declared.Facts.{Facts}
use Rattle.mania.specs.LimitedQueue as Queue
use Rattle.mania.specs.Made.{Made}
use Rattle.mania.specs.Object.{object}
use Rattle.mania.specs.Convert as Convert
use Rattle.mania.specs.Convert.{walk_after, after_object}
use Rattle.density.specs.Queued.{queued}
use Rattle.std.specs.Prelude.{Result, Ok, Err}
use Rattle.rules.specs.Coded.{code}
use Rattle.random.specs.declared.Refused.{Refused}
use Rattle.pattern.specs.declared.Made as Lent
use Rattle.pattern.specs.Answers.{made_by}
use Rattle.pattern.specs.Laws.Words.{note_count_law}
use Rattle.object.specs.Notes.{note_at}
use Rattle.walk.specs.declared.Song.{Song}
use Rattle.walk.specs.declared.InForce.{InForce}
use Rattle.walk.specs.declared.Met.{Met}
use Rattle.walk.specs.declared.Walk.{Walk}
use Rattle.walk.specs.Kept.{walk_of}
use Rattle.walk.specs.Steps.{facts_by, Meets, Keeps, density_at, facts_in, object_rule, too_long, Next, Stops, refuses, full, Steps}

facts_are : (g : Song) (c : InForce) (w : Walk) (o : Object) (m : Met) → Meets g c w.density o m → m.facts ≡ facts_in g c w o
facts_are g c w o m h = h.facts ∙ ap (facts_by g c) h.density

-- what was kept is a step of the walk
module _ (entry exit words : List ℕ) (i : ℕ) (g : Song) (c : InForce) (w : Walk) (o : Object) (d e : Draws) (m : Met) (l : Lent.Made)
    (h : Meets g c w.density o m) (size : most_notes ≤ length words) (deck : (l.pattern.count ≤ most_notes) × (l.pattern.mask < 2 ^ g.columns) × (l.pattern.last < g.columns))
    (says : found (made_by (note_at o) words l) e ≡ on (object m.facts w.prev g.columns o) d) where
  abbrev made : Made
  made = made_by (note_at o) words l

  counted : length made.notes ≡ l.pattern.count
  counted = note_count_law (note_at o) words l.pattern.count (le_trans deck.0 size)

  ruled : object_rule g c w o d ≡ found made e
  ruled = ap (λ (f : Facts). on (object f w.prev g.columns o) d) (sym (facts_are g c w o m h)) ∙ sym says

  pub finished : (r : Result (Walk × Draws) Refused) → Keeps entry exit words i o m l w e r → Steps entry exit i g c w o d r
  unfolding walk_of walk_after after_object
  finished (Ok (x, f)) k =
      let p = l.pattern in
      let left : walk_of x ≡ walk_after m.facts o (queued m.density) p.mask p.last l.stair p.count (walk_of w) = k.2 in
      subst (λ (q : Draws). Next entry exit i g c w o d x q) (sym k.3) (record {
        made = made;
        says = ruled;
        room = subst (λ (n : ℕ). too_long entry w n ≡ false) (sym counted) k.0;
        written = k.1;
        after =
            left
            ∙ ap₂ (λ (f : Facts) (q : Queue.Density). walk_after f o q p.mask p.last l.stair p.count (walk_of w)) (facts_are g c w o m h) h.density
            ∙ ap (λ (n : ℕ). walk_after (facts_in g c w o) o (density_at w o) p.mask p.last l.stair n (walk_of w)) (sym counted);
        few = subst (λ (n : ℕ). n ≤ most_notes) (sym counted) deck.0;
        sound =
            record {
              mask = subst (λ (z : Convert.Walk). z.prev.mask < 2 ^ g.columns) (sym left) deck.1;
              last = subst (λ (z : Convert.Walk). z.prev.last < g.columns) (sym left) deck.2;
            };
      })
  finished (Err r) k =
      subst (λ (q : Draws). Stops entry g c w o d (code r.refusal) q) (sym k.2) (full made ruled (subst (λ (n : ℕ). too_long entry w n ≡ true) (sym counted) k.0) k.1)

-- a refusal of the object's rule is one too
pub refused_step : (entry : List ℕ) (g : Song) (c : InForce) (w : Walk) (o : Object) (d e : Draws) (m : Met) (n : ℕ)
    → Meets g c w.density o m → refused n e ≡ on (object m.facts w.prev g.columns o) d → Stops entry g c w o d n e
refused_step entry g c w o d e m n h says = refuses (ap (λ (f : Facts). on (object f w.prev g.columns o) d) (sym (facts_are g c w o m h)) ∙ sym says)
