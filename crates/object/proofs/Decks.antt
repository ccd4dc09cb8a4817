-- What each kind of object comes to, and that what it leaves for the next one lies on the deck. Assumes nothing.
use Rattle.std.specs.Prelude.{Option}
use mathlib.Core.Path.{◌≡◌, sym, subst}
use mathlib.Core.Logic.{◌⊎◌, inl, inr}
use Prim.Native.Nat.{ℕ, ◌^◌, ◌≤◌, ◌<◌}
use mathlib.Core.List.{List}
use native.Mathlib.Omega.{arith}
use lib.Dec.{lit≤}
use lib.Ieee.{Float}
use Rattle.model.specs.Limits.{most_notes}
use Rattle.rules.specs.Refusal.{ObjectRule}
use Rattle.random.specs.Play.{on}
use Rattle.random.specs.declared.Draws.{Draws}
use Rattle.random.specs.Laws.On.{gives}
use Rattle.model.specs.declared.Kind.{Kind}
use Rattle.model.specs.declared.Kind.TheVariants.{Circle, Slider, Spinner, Hold}
use Rattle.model.specs.declared.Object.{Object}
use Rattle.mania.specs.declared.Note.{Note}
use Rattle.mania.specs.declared.Facts.{Facts}
use Rattle.mania.specs.declared.PrevValues.{PrevValues}
use Rattle.mania.specs.declared.HitObjectPatternGenerator.{HitObjectPatternGenerator}
use Rattle.mania.specs.Made.{Made}
use Rattle.mania.specs.HitObject as HitObject
use Rattle.mania.specs.PathObject as PathObject
use Rattle.mania.specs.EndTimeObject as EndTimeObject
use Rattle.mania.specs.Object.{object, by_kind}
use Rattle.mania.proofs.Makes.{Makes, any, giving, seq, less}
use Rattle.mania.proofs.CircleDeck.{circle_makes}
use Rattle.mania.proofs.SliderDeck.{slider_makes}
use Rattle.pattern.specs.Answers.{object_end, noted, Generates}
use Rattle.std.specs.Prelude.{Result, Ok, Err}
use Rattle.random.specs.declared.Refused.{Refused}
use Rattle.pattern.specs.declared.Made as Lent
use Rattle.end_time_object.specs.Answers.{end_note_at}
use Rattle.circle_notes.specs.Answers.{circle_at}
use Rattle.slider_notes.specs.Words.{note_of_word}
use Rattle.object.specs.Notes.{note_by, note_at}
use Rattle.object.specs.Contract.{OnDeck, Ends}

-- what the next object meets
abbrev MadeOn : ℕ → Made → Type 0
MadeOn columns m = (m.last < columns) × (m.mask < 2 ^ columns)

circle_on : (g : HitObjectPatternGenerator) → 0 < g.columns → Makes (MadeOn g.columns) (HitObject.generate g)
circle_on g h = less (circle_makes g h) (λ m k. (k.0, k.1))

end_on : (v : PrevValues) (columns : ℕ) (o : Object) (duration : Float) → v.last < columns → v.mask < 2 ^ columns → Makes (MadeOn columns) (EndTimeObject.generate v columns o duration)
unfolding EndTimeObject.generate
end_on v columns o duration l m = seq any (λ c u. seq any (λ p u. giving (l, m)))

-- an answer that is a rule's, where the rule gives only what is on the deck
on_deck : (columns : ℕ) (rule : ObjectRule Made) → Makes (MadeOn columns) rule → (d : Draws) (read : ℕ → Note) (exit : List ℕ) (most : ℕ) (r : Result (Lent.Made × Draws) Refused)
    → Generates read exit (on rule d) most r → most ≤ most_notes → OnDeck columns r
on_deck columns rule makes d read exit most r h k = go r h.says h.few
  where
    go : (r : Result (Lent.Made × Draws) Refused) → object_end read exit r ≡ on rule d → noted r ≤ most → OnDeck columns r
    go (Ok (m, e)) says few = let on = gives (MadeOn columns) rule makes.made d _ e (sym says) in (omega arith, on.1, on.0)
    go (Err e) says few = tt

-- ---- each kind

module _ (f : Facts) (v : PrevValues) (columns : ℕ) (o : Object) (d : Draws) (words : List ℕ) (r : Result (Lent.Made × Draws) Refused) where
  by_kind_law : (k : Kind) → o.kind ≡ k → object_end (note_by o k) words r ≡ on (by_kind f v columns o k) d → OnDeck columns r → Ends f v columns o d words r
  unfolding note_at object
  by_kind_law k e says deck = record { says = subst (λ (k : Kind). object_end (note_by o k) words r ≡ on (by_kind f v columns o k) d) (sym e) says; deck = deck }

  pub circle_ends : o.kind ≡ Circle → 0 < columns → Generates (circle_at o.start) words (on (HitObject.generate (HitObject.new f v columns o)) d) 14 r → Ends f v columns o d words r
  unfolding note_by by_kind HitObject.new
  circle_ends e low h = by_kind_law Circle e h.says (on_deck columns _ (circle_on (HitObject.new f v columns o) low) d _ words 14 r h (lit≤ tt))

  pub slider_ends : (repeats : ℕ) (distance : Option Float) (node : Option ℕ) → o.kind ≡ Slider repeats distance node → 0 < columns
      → Generates note_of_word words (on (PathObject.generate (PathObject.new f v columns o repeats distance node)) d) most_notes r → Ends f v columns o d words r
  unfolding note_by by_kind PathObject.new
  slider_ends repeats distance sound e low h =
      by_kind_law (Slider repeats distance sound) e h.says (on_deck columns _ (slider_makes (PathObject.new f v columns o repeats distance sound) low) d _ words most_notes r h (lit≤ tt))

  module _ (duration : Float) (l : v.last < columns) (m : v.mask < 2 ^ columns) (h : Generates (end_note_at o duration) words (on (EndTimeObject.generate v columns o duration) d) 1 r) where
    deck : OnDeck columns r
    deck = on_deck columns _ (end_on v columns o duration l m) d _ words 1 r h (lit≤ tt)

    pub end_time_ends : (o.kind ≡ Spinner duration) ⊎ (o.kind ≡ Hold duration) → Ends f v columns o d words r
    unfolding note_by by_kind
    end_time_ends (inl e) = by_kind_law (Spinner duration) e h.says deck
    end_time_ends (inr e) = by_kind_law (Hold duration) e h.says deck
