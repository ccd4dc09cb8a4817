-- The pattern that an object leaves to the next one has as many notes as its mask has ones. Assumes nothing.
use Rattle.std.specs.Prelude.{if◌then◌else◌, Option}
use mathlib.Core.Path.{◌≡◌, refl, sym, ap, ◌∙◌}
use Prim.Native.Nat.{ℕ, ◌+◌, ◌^◌, ◌≤◌}
use native.Mathlib.Nat.{le_trans}
use native.Mathlib.Omega.{arith}
use mathlib.Core.Bool.{Bool, true, false}
use mathlib.Core.List.{List, [], ◌∷◌, ◌++◌, map}
use lib.Bits.{bit_or}
use lib.Count.{ones, ones_in}
use lib.Dec.{eqb, lit≤}
use lib.Ieee.{Float}
use lib.ListN.{length}
use borrow.Author.Tests.{eqb-true}
use Rattle.model.specs.declared.Object.{Object}
use Rattle.mania.specs.declared.Facts.{Facts}
use Rattle.mania.specs.declared.PrevValues.{PrevValues}
use Rattle.mania.specs.declared.SliderNote.{SliderNote}
use Rattle.mania.specs.declared.PathObjectPatternGenerator.{PathObjectPatternGenerator}
use Rattle.mania.specs.Made.{Made}
use Rattle.mania.specs.Pattern.{Pattern, empty, put}
use Rattle.mania.specs.HitObject
use Rattle.mania.specs.PathObject
use Rattle.mania.specs.EndTimeObject
use Rattle.mania.specs.Demand.{Each, EveryTwo}
use Rattle.mania.specs.Previous.{last_pattern, Leaves, ListsOnce}
use Rattle.mania.proofs.Masks.{bit, empty_bit, or_bit}
use Rattle.mania.proofs.Frees.{other_bit}
use Rattle.mania.proofs.Ones.{ones_or, mask_from}
use Rattle.mania.proofs.Makes.{Makes, any, giving, seq, less, both, ran}
use Rattle.mania.proofs.Bars.{Off, kept, ending_kept}
use Rattle.mania.proofs.CircleLanes.{circle_differ}
use Rattle.mania.proofs.CircleDeck.{circle_listed}
use Rattle.mania.proofs.SliderLanes.{bars_two}
use Rattle.mania.proofs.SliderDeck.{core_listed}
use Rattle.mania.proofs.Demand.{spans_fit, some_spans}

-- ---- columns that differ

module _ {A : Type 0} (column : A → ℕ) where
  abbrev Differ : A → A → Type 0
  Differ a b = column a ≡ column b → ⊥

  -- a column that is still free after another one
  still_free : (mask c : ℕ) (xs : List A) → Each (λ y. bit mask (column y) ≡ 0) xs → Each (λ y. c ≡ column y → ⊥) xs
      → Each (λ y. bit (bit_or mask (2 ^ c)) (column y) ≡ 0) xs
  still_free mask c [] h d = tt
  still_free mask c (y ∷ ys) h d = (free, still_free mask c ys h.1 d.1)
    where
      free : bit (bit_or mask (2 ^ c)) (column y) ≡ 0
      free = or_bit mask (2 ^ c) (column y) ∙ rw (h.0, other_bit c (column y) (λ e. d.0 (sym e)))

  ones_from : (mask : ℕ) (xs : List A) → Each (λ y. bit mask (column y) ≡ 0) xs → EveryTwo Differ xs → ones (mask_from column mask xs) ≡ ones mask + length xs
  unfolding mask_from
  ones_from mask [] h d = omega arith
  ones_from mask (x ∷ xs) h d =
      omega (arith, ones_from (bit_or mask (2 ^ column x)) xs (still_free mask (column x) xs h.1 d.0) d.1, ones_or mask (column x), h.0)

  none_yet : (xs : List A) → Each (λ y. bit 0 (column y) ≡ 0) xs
  none_yet [] = tt
  none_yet (x ∷ xs) = (empty_bit (column x), none_yet xs)

  -- as many notes as ones
  pub as_many : (xs : List A) → EveryTwo Differ xs → length xs ≡ ones (mask_from column 0 xs)
  unfolding ones ones_in
  as_many xs d = omega (arith, ones_from 0 xs (none_yet xs) d)

-- ---- a circle

circle_leaves : (f : Facts) (v : PrevValues) (columns : ℕ) (o : Object) → 1 ≤ columns
    → Makes (λ m. Leaves m (record { mask = m.mask; last = m.last; notes = m.notes })) (HitObject.generate (HitObject.new f v columns o))
unfolding HitObject.new
circle_leaves f v columns o some =
    less (both (circle_listed (HitObject.new f v columns o) some) (circle_differ (HitObject.new f v columns o) (λ n. Unit {0}) (λ c l. tt) some))
    (λ m h. record { mask = refl; last = refl; once = as_many (λ n. n.column) m.notes h.1.0 ∙ ap ones (sym h.0) })

-- ---- a slider

-- of those that end at one time, no two are on one column
kept_each : (end : ℕ) (b : SliderNote) (bs : List SliderNote) → b.end ≡ end → Each (Off b) bs → Each (λ a. b.column ≡ a.column → ⊥) (kept end bs)
unfolding kept
kept_each end b [] e h = tt
kept_each end b (a ∷ bs) e h = go (eqb a.end end) refl (kept_each end b bs e h.1)
  where
    go : (t : Bool) → eqb a.end end ≡ t → Each (λ a. b.column ≡ a.column → ⊥) (kept end bs)
        → Each (λ a. b.column ≡ a.column → ⊥) (if t then a ∷ kept end bs else kept end bs)
    go true k rest = (λ c. omega (arith, e, eqb-true a.end end k, (h.0 c).0, (h.0 c).1, (h.0 c).2), rest)
    go false k rest = rest

kept_two : (end : ℕ) (bs : List SliderNote) → EveryTwo Off bs → EveryTwo (λ a b. a.column ≡ b.column → ⊥) (kept end bs)
unfolding kept
kept_two end [] h = tt
kept_two end (b ∷ bs) h = go (eqb b.end end) refl (kept_two end bs h.1)
  where
    go : (t : Bool) → eqb b.end end ≡ t → EveryTwo (λ a b. a.column ≡ b.column → ⊥) (kept end bs)
        → EveryTwo (λ a b. a.column ≡ b.column → ⊥) (if t then b ∷ kept end bs else kept end bs)
    go true k rest = (kept_each end b bs (eqb-true b.end end k) h.0, rest)
    go false k rest = rest

-- their mask
ending_mask : (end : ℕ) (bs : List SliderNote) (p : Pattern SliderNote) → (PathObject.ending end bs p).mask ≡ mask_from (λ b. b.column) p.mask (kept end bs)
unfolding PathObject.ending kept put mask_from
ending_mask end [] p = refl
ending_mask end (b ∷ bs) p = go (eqb b.end end) (ending_mask end bs)
  where
    go : (t : Bool) → ((q : Pattern SliderNote) → (PathObject.ending end bs q).mask ≡ mask_from (λ b. b.column) q.mask (kept end bs))
        → (PathObject.ending end bs (if t then put b b.column p else p)).mask ≡ mask_from (λ b. b.column) p.mask (if t then b ∷ kept end bs else kept end bs)
    go true h = h (put b b.column p)
    go false h = h p

-- one note has no other beside it
alone_two : (bs : List SliderNote) → length bs ≡ 1 → EveryTwo (λ a b. a.column ≡ b.column → ⊥) bs
alone_two [] e = tt
alone_two (b ∷ []) e = (tt, tt)
alone_two (b ∷ a ∷ bs) e = absurd (omega arith)

split_leaves : (g : PathObjectPatternGenerator) (p : Pattern SliderNote) → EveryTwo Off p.notes → p.mask ≡ mask_from (λ b. b.column) 0 p.notes
    → Leaves (PathObject.split g p) (last_pattern g p)
unfolding PathObject.split last_pattern empty
split_leaves g p two listed = go (eqb (length p.notes) 1) refl
  where
    q : Pattern SliderNote
    q = PathObject.ending g.end p.notes empty

    alone : Made
    alone = record { notes = map PathObject.note_of p.notes; mask = p.mask; last = p.last; stair = g.stair }

    parted : Made
    parted = record { notes = map PathObject.note_of (PathObject.others g.end p.notes ++ q.notes); mask = q.mask; last = q.last; stair = g.stair }

    ends : List SliderNote
    ends = kept g.end p.notes

    go : (t : Bool) → eqb (length p.notes) 1 ≡ t → Leaves (if t then alone else parted) (if t then p else q)
    go true e =
        record {
          mask = refl;
          last = refl;
          once = as_many (λ b. b.column) p.notes (alone_two p.notes (eqb-true (length p.notes) 1 e)) ∙ ap ones (sym listed);
        }
    go false e =
        record {
          mask = refl;
          last = refl;
          once = ap length (ending_kept g.end p.notes empty) ∙ as_many (λ b. b.column) ends (kept_two g.end p.notes two) ∙ ap ones (sym (ending_mask g.end p.notes empty));
        }

slider_leaves : (f : Facts) (v : PrevValues) (columns : ℕ) (o : Object) (repeats : ℕ) (distance : Option Float) (node : Option ℕ) → 1 ≤ columns
    → PathObject.end_time f o (repeats + 1) distance ≤ PathObject.latest
    → let g = PathObject.new f v columns o repeats distance node in Makes (λ p. Leaves (PathObject.split g p) (last_pattern g p)) (PathObject.generate_core g)
unfolding PathObject.new PathObject.span_length
slider_leaves f v columns o repeats distance sound some late =
    let g = PathObject.new f v columns o repeats distance sound in
    less (both (core_listed g some) (bars_two (λ b. Unit {0}) g (λ c t e l k m. tt) (λ c l. tt) (λ c l. tt) (le_trans late (lit≤ tt)) (some_spans repeats)
    (λ l. spans_fit (PathObject.start_time o) (PathObject.end_time f o (repeats + 1) distance) (repeats + 1) (some_spans repeats) l)))
    (λ p h. split_leaves g p h.1.0 h.0)

-- ---- a spinner or a hold

end_leaves : (v : PrevValues) (columns : ℕ) (o : Object) (duration : Float)
    → Makes (λ m. (m.mask ≡ v.mask) × (m.last ≡ v.last)) (EndTimeObject.generate v columns o duration)
unfolding EndTimeObject.generate
end_leaves v columns o duration = seq any (λ c u. seq any (λ p u. giving (refl, refl)))

pub lists_once : ListsOnce
lists_once =
    record {
      circle = λ f v columns o some a n r made e. ran _ _ (circle_leaves f v columns o some).made r a made n e;
      slider = λ f v columns o repeats distance node some late a n r p e. ran _ _ (slider_leaves f v columns o repeats distance node some late).made r a p n e;
      spinner = λ v columns o duration a n r made e. ran _ _ (end_leaves v columns o duration).made r a made n e;
    }
