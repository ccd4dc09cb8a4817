-- What a song's walk reaches: with 8 columns at most five columns and not column 0 alone, so that 9 and 10 don't come. Assumes nothing.
use Rattle.std.specs.Prelude.{if◌then◌else◌}
use mathlib.Core.Path.{◌≡◌, refl, sym, ap, ◌∙◌, subst}
use mathlib.Core.Logic.{◌⊎◌, inl, inr, ⊎_elim}
use Prim.Native.Nat.{ℕ, zero, suc, ◌+◌, ◌^◌, ◌≤◌, ◌<◌}
use native.Mathlib.Nat.{add-zero}
use native.Mathlib.Omega.{arith}
use mathlib.Core.Bool.{Bool, true, false, not, ◌&&◌}
use mathlib.Core.List.{List, [], ◌∷◌}
use lib.Dec.{eqb, leb, ltb, lit≤}
use lib.Count.{ones, ones_in}
use lib.ListN.{length}
use lib.Pow.{pow_pos}
use borrow.Author.Tests.{eqb-true, eqb-false, eq-eqb, le-leb, lt-ltb}
use Rattle.rules.specs.Rule.{Rule, ended, run}
use Rattle.rules.specs.Refusal.{Refusal, late_end, no_column, off_deck, too_short, long_search}
use Rattle.random.specs.Generator.{values}
use Rattle.random.specs.declared.Random.{Random}
use Rattle.model.specs.Song.{Song}
use Rattle.model.specs.declared.Object.{Object}
use Rattle.model.specs.declared.Kind.{Kind}
use Rattle.model.specs.declared.Kind.TheVariants.{Circle, Slider, Spinner, Hold}
use Rattle.mania.specs.declared.Facts.{Facts}
use Rattle.mania.specs.declared.PrevValues.{PrevValues}
use Rattle.mania.specs.declared.Note.{Note}
use Rattle.mania.specs.Made.{Made}
use Rattle.mania.specs.Pattern.{free}
use Rattle.mania.specs.PatternType.{mirror, contains}
use Rattle.mania.specs.LimitedQueue.{Density}
use Rattle.mania.specs.HitObject
use Rattle.mania.specs.PathObject
use Rattle.mania.specs.EndTimeObject
use Rattle.mania.specs.Object.{by_kind, object}
use Rattle.mania.specs.Convert.{Walk, SongFacts, song_facts, AtObject, at, beginning, meets, facts_at, walk_after, after_object, object_in, walk, columns_of, convert}
use Rattle.mania.specs.Single.{pattern_fits, entry_refusal}
use Rattle.mania.specs.Refusals.{Late, LateAt, Blocked, Below, InWalk}
use Rattle.mania.specs.Reached.{most, ReachedOf8, Reached, walk_to, reaches, Valid, Reasons}
use Rattle.mania.specs.Laws.Tests.{and_r, four}
use Rattle.mania.specs.Laws.Singles.{Fits, pattern_fits_law}
use Rattle.mania.proofs.Masks.{bit, taken_bit, bit_taken, empty_bit}
use Rattle.mania.proofs.Ones.{alone_0, Own, Owned}
use Rattle.mania.proofs.Makes as Makes
use Rattle.mania.proofs.Makes.{Makes, any, ran}
use Rattle.mania.proofs.Meets.{Meets, giving, refusing, seq, by, less, both, labelled, refused_meets}
use Rattle.mania.proofs.CircleDeck.{circle_owns}
use Rattle.mania.proofs.SliderDeck.{slider_owns}
use Rattle.mania.proofs.CircleReach.{not_mirrored, circle_reach}
use Rattle.mania.proofs.SliderReach.{slider_reach}
use Rattle.mania.proofs.Conditions.{Condition, object_ends}
use Rattle.mania.proofs.Demand.{some_columns}
use Rattle.mania.proofs.Singles.{checks, claims}
use Rattle.mania.proofs.Follows.{follows}
use Rattle.chart.specs.Layout.{chart_size}

-- ---- what 13 asks, in parts

fits_own : (v : PrevValues) (columns : ℕ) → pattern_fits v columns ≡ true → Own v.mask v.last
unfolding pattern_fits
fits_own v columns e = go (eqb v.mask 0) refl (four (leb 1 columns) (leb columns 9) (ltb v.mask (2 ^ columns)) _ e).3
  where
    taken : (b : Bool) → not b ≡ true → b ≡ false
    taken true h = sym h
    taken false h = refl

    go : (b : Bool) → eqb v.mask 0 ≡ b → (if b then eqb v.last 0 else ltb v.last columns && not (free v.mask v.last)) ≡ true → Own v.mask v.last
    go true z h = inl (eqb-true v.mask 0 z, eqb-true v.last 0 h)
    go false z h = inr (taken_bit v.mask v.last (taken (free v.mask v.last) (and_r (ltb v.last columns) _ h)))

own_fits : (v : PrevValues) (columns : ℕ) → 1 ≤ columns → columns ≤ 9 → v.mask < 2 ^ columns → v.last < columns → Own v.mask v.last → pattern_fits v columns ≡ true
unfolding pattern_fits
own_fits v columns some deck mask last h = rw (le-leb 1 columns some, le-leb columns 9 deck, lt-ltb v.mask (2 ^ columns) mask) (go (eqb v.mask 0) refl)
  where
    go : (b : Bool) → eqb v.mask 0 ≡ b → (if b then eqb v.last 0 else ltb v.last columns && not (free v.mask v.last)) ≡ true
    go true z = eq-eqb v.last 0 (⊎_elim (λ k. k.1) (λ (b : bit v.mask v.last ≡ 1). absurd (none (eqb-true v.mask 0 z) b)) h)
      where
        none : v.mask ≡ 0 → bit v.mask v.last ≡ 1 → ⊥
        none e b = let z : bit 0 v.last ≡ 1 = subst (λ (m : ℕ). bit m v.last ≡ 1) e b in omega (arith, empty_bit v.last)
    go false z = ⊎_elim (λ k. absurd (eqb-false v.mask 0 z k.0)) (λ (b : bit v.mask v.last ≡ 1). rw (lt-ltb v.last columns last, bit_taken v.mask v.last b)) h

-- ---- what an object leaves

record Leaves (columns : ℕ) (m : Made) : Type 0 where
  owned : Owned columns m
  of_8 : columns ≡ 8 → ReachedOf8 m.mask

-- with 8 columns
when_8 : {W R A : Type 0} {P : A → Type 0} (columns : ℕ) {m : Rule W R A} → (columns ≡ 8 → Makes P m) → Makes (λ a. columns ≡ 8 → P a) m
when_8 {P = P} columns {m = m} h = go (eqb columns 8) refl
  where
    go : (b : Bool) → eqb columns 8 ≡ b → Makes (λ a. columns ≡ 8 → P a) m
    go true e = Makes.less (h (eqb-true columns 8 e)) (λ a p z. p)
    go false e = Makes.less any (λ a u z. absurd (eqb-false columns 8 e z))

-- ---- refusals told apart

abbrev which : Refusal → ℕ
which late_end = 0
which no_column = 1
which off_deck = 2
which too_short = 3
which long_search = 4

differ : {q r : Refusal} {A : Type 0} → q ≡ r → (which q ≡ which r → ⊥) → A
differ e n = absurd (n (ap which e))

-- ---- an object after a reached pattern

module _ (f : Facts) (v : PrevValues) (columns : ℕ) (o : Object) (before : Reached columns v) where
  fit : Fits v columns
  fit = pattern_fits_law v columns before.fits

  -- a spinner or a hold leaves what it met
  stays : {notes : List Note} → Leaves columns (record { notes = notes; mask = v.mask; last = v.last; stair = v.stair })
  stays = record { owned = record { mask = fit.mask; last = fit.last; own = fits_own v columns before.fits }; of_8 = before.of_8 }

  -- columns 1 to 7 are more than five
  seven : columns ≡ 8 → v.mask ≡ 254 → ⊥
  unfolding ones ones_in
  seven e h = let z : 7 ≤ most = subst (λ (m : ℕ). ones m ≤ most) h (before.of_8 e).few in omega arith

  -- where column 0 is the last and only column, it is column 0 alone
  from_0 : columns ≡ 8 → v.last ≡ 0 → ones v.mask ≡ 1 → ⊥
  unfolding ones ones_in
  from_0 e l h = ⊎_elim (λ k. let z : 0 ≡ 1 = subst (λ (m : ℕ). ones m ≡ 1) k.0 h in omega arith)
      (λ (b : bit v.mask v.last ≡ 1). (before.of_8 e).beside (alone_0 columns v.mask fit.mask h (subst (λ (c : ℕ). bit v.mask c ≡ 1) l b)))
      (fits_own v columns before.fits)

  kind_leaves : (k : Kind) → Makes (Leaves columns) (by_kind f v columns o k)
  unfolding by_kind HitObject.new PathObject.new EndTimeObject.generate
  kind_leaves Circle =
      let g = HitObject.new f v columns o in
      Makes.less
      (Makes.both (circle_owns g fit.some)
      (when_8 columns (λ e. circle_reach g e (before.of_8 e).few fit.last (subst (λ (c : ℕ). contains (HitObject.new f v c o).flags mirror ≡ false) (sym e) (not_mirrored f v o)))))
      (λ m h. record { owned = h.0; of_8 = h.1 })
  kind_leaves (Slider repeats distance sound) =
      let g = PathObject.new f v columns o repeats distance sound in
      Makes.less (Makes.both (slider_owns g fit.some) (when_8 columns (λ e. slider_reach g e fit.mask (before.of_8 e).few)))
      (λ m h. record { owned = h.0; of_8 = h.1 })
  kind_leaves (Spinner duration) = Makes.seq any (λ c u. Makes.seq any (λ p u. Makes.giving stays))
  kind_leaves (Hold duration) = Makes.seq any (λ c u. Makes.seq any (λ p u. Makes.giving stays))

  object_leaves : Makes (Leaves columns) (object f v columns o)
  unfolding object
  object_leaves = kind_leaves o.kind

  -- ---- and 9 and 10 don't come

  not_blocked : (k : Kind) → Blocked v columns k → ⊥
  unfolding Blocked
  not_blocked Circle h = h
  not_blocked (Slider repeats distance sound) h = seven h.0 h.1
  not_blocked (Spinner duration) h = seven h.0 h.1
  not_blocked (Hold duration) h = seven h.0 h.1

  not_below : (k : Kind) → Below f v columns o k → ⊥
  unfolding Below
  not_below Circle h = from_0 h.0 h.1 h.2
  not_below (Slider repeats distance sound) h = h
  not_below (Spinner duration) h = h
  not_below (Hold duration) h = h

  valid_ends : Meets (λ r. (r ≡ no_column → ⊥) × (r ≡ off_deck → ⊥)) (Leaves columns) (object f v columns o)
  valid_ends = both (less (object_ends f v columns o fit.some fit.deck fit.mask fit.last) (λ m h. h) by_refusal) object_leaves
    where
      by_refusal : (r : Refusal) → Condition f v columns o o.kind r → (r ≡ no_column → ⊥) × (r ≡ off_deck → ⊥)
      by_refusal late_end h = (λ e. differ e (λ z. omega arith), λ e. differ e (λ z. omega arith))
      by_refusal no_column h = absurd (not_blocked o.kind h)
      by_refusal off_deck h = absurd (not_below o.kind h)
      by_refusal too_short h = absurd h
      by_refusal long_search h = (λ e. differ e (λ z. omega arith), λ e. differ e (λ z. omega arith))

-- the next object meets a reached pattern again
next_reached : (columns : ℕ) (f : Facts) (o : Object) (d : Density) (made : Made) (w : Walk) → 1 ≤ columns → columns ≤ 9 → Leaves columns made → Reached columns (after_object f o d made w).prev
unfolding after_object walk_after
next_reached columns f o d made w some deck h =
    record { of_8 = h.of_8; fits = own_fits _ columns some deck h.owned.mask h.owned.last h.owned.own }

begins : (columns : ℕ) → 1 ≤ columns → columns ≤ 9 → Reached columns beginning.prev
unfolding beginning ones ones_in
begins columns some deck =
    record { of_8 = λ e. record { few = lit≤ tt; beside = λ z. omega arith }; fits = own_fits beginning.prev columns some deck (pow_pos columns) some (inl (refl, refl)) }

-- ---- a walk

-- a slider's end does not depend on the density
pub late_same : (s : SongFacts) (d e : Density) (o : Object) (k : Kind) → Late (facts_at s d o) o k → Late (facts_at s e o) o k
unfolding Late facts_at PathObject.end_time
late_same s d e o Circle h = h
late_same s d e o (Slider repeats distance sound) h = h
late_same s d e o (Spinner duration) h = h
late_same s d e o (Hold duration) h = h

module _ (s : SongFacts) (i : ℕ) (o : Object) (os : List Object) where
  later : (r : AtObject) → InWalk s (suc i) os r → InWalk s i (o ∷ os) r
  unfolding LateAt
  later r h = record { late = λ e. let k = h.late e in (suc k.0, k.1 ∙ next k.0, k.2); found = h.found; on = h.on }
    where
      next : (k : ℕ) → suc i + k ≡ i + suc k
      next k = omega arith

  short_here : (j : ℕ) → InWalk s i (o ∷ os) (at j too_short)
  short_here j = record { late = λ e. differ e (λ z. omega arith); found = λ e. differ e (λ z. omega arith); on = λ e. differ e (λ z. omega arith) }

  module _ (v : PrevValues) (d : Density) (columns : ℕ) (before : Reached columns v) where
    here : (r : Refusal) → Condition (facts_at s d o) v columns o o.kind r → InWalk s i (o ∷ os) (at i r)
    unfolding LateAt
    here late_end h =
        record {
          late = λ e. (0, sym (add-zero i), late_same s d _ o o.kind h);
          found = λ e. differ e (λ z. omega arith);
          on = λ e. differ e (λ z. omega arith);
        }
    here no_column h = absurd (not_blocked (facts_at s d o) v columns o before o.kind h)
    here off_deck h = absurd (not_below (facts_at s d o) v columns o before o.kind h)
    here too_short h = absurd h
    here long_search h = record { late = λ e. differ e (λ z. omega arith); found = λ e. differ e (λ z. omega arith); on = λ e. differ e (λ z. omega arith) }

    object_here : Meets (λ r. InWalk s i (o ∷ os) (at i r)) (Leaves columns) (object (facts_at s d o) v columns o)
    object_here =
        let f = facts_at s d o in
        let fit = pattern_fits_law v columns before.fits in
        both (less (object_ends f v columns o fit.some fit.deck fit.mask fit.last) (λ x h. h) here) (object_leaves f v columns o before)

module _ (s : SongFacts) (columns room : ℕ) (some : 1 ≤ columns) (deck : columns ≤ 9) where
  walk_ends : (os : List Object) (i : ℕ) (w : Walk) → Reached columns w.prev → Meets (InWalk s i os) (λ nss. Unit {0}) (walk s columns room i w os)
  unfolding walk object_in
  walk_ends [] i w before = giving tt
  walk_ends (o ∷ os) i w before =
      let d = meets o.kind o.start w.density in
      let f = facts_at s d o in
      seq {P = Leaves columns}
      (labelled (InWalk s i (o ∷ os)) (λ p. i) (at i)
      (seq (object_here s i o os w.prev d columns before)
      (λ made h. by (ltb room (chart_size (w.notes + length made.notes))) _ _ (λ e. refusing (short_here s i o os i)) (λ e. giving h))))
      (λ made h. seq (less (walk_ends os (suc i) (after_object f o d made w) (next_reached columns f o d made w some deck h)) (λ x u. u) (later s i o os)) (λ rest u. giving tt))

  walk_reached : (k : ℕ) (w : Walk) (os : List Object) → Reached columns w.prev → Makes (λ x. Reached columns x.prev) (walk_to s columns k w os)
  unfolding walk_to
  walk_reached zero w os before = Makes.giving before
  walk_reached (suc k) w [] before = Makes.giving before
  walk_reached (suc k) w (o ∷ os) before =
      let d = meets o.kind o.start w.density in
      let f = facts_at s d o in
      Makes.seq (object_leaves f w.prev columns o before) (λ made h. walk_reached k (after_object f o d made w) os (next_reached columns f o d made w some deck h))

pub convert_ends : (s : Song) (room : ℕ) → columns_of s ≤ 9 → Meets (InWalk (song_facts s) 0 s.objects) (λ nss. Unit {0}) (convert s room)
unfolding convert
convert_ends s room deck =
    by (ltb room 8) _ _
    (λ e. refusing (record { late = λ e. differ e (λ z. omega arith); found = λ e. differ e (λ z. omega arith); on = λ e. differ e (λ z. omega arith) }))
    (λ e. walk_ends (song_facts s) (columns_of s) room (some_columns s) deck s.objects 0 beginning (begins (columns_of s) (some_columns s) deck))

-- ---- the claims

kept : (f : Facts) (o : Object) (d : Density) (w : Walk) (columns : ℕ) → Reached columns w.prev
    → (a n : ℕ) (r : Random) (made : Made) → run (object f w.prev columns o) (values a r) ≡ ended made n → Reached columns (after_object f o d made w).prev
kept f o d w columns h a n r made e =
    let fit = pattern_fits_law w.prev columns h.fits in
    next_reached columns f o d made w fit.some fit.deck (ran _ (object f w.prev columns o) (object_leaves f w.prev columns o h).made r a made n e)

reaches_reached : (s : Song) → columns_of s ≤ 9 → (k : ℕ) → Makes (λ w. Reached (columns_of s) w.prev) (reaches s k)
unfolding reaches
reaches_reached s deck k = walk_reached (song_facts s) (columns_of s) 0 (some_columns s) deck k beginning s.objects (begins (columns_of s) (some_columns s) deck)

reached_valid : (f : Facts) (v : PrevValues) (columns : ℕ) (o : Object) → Reached columns v → Valid f v columns o
reached_valid f v columns o h =
    record {
      found = λ a r e. (refused_meets (object f v columns o) (valid_ends f v columns o h) a r no_column e.0 e.1).0 refl;
      on = λ a r e. (refused_meets (object f v columns o) (valid_ends f v columns o h) a r off_deck e.0 e.1).1 refl;
    }

-- a check's number is neither 9 nor 10, and their conditions are not met after a reached pattern
lent_made_up : (f : Facts) (v : PrevValues) (columns : ℕ) (o : Object) (k : ℕ) → (k ≡ 9) ⊎ (k ≡ 10) → Reached columns v
    → ((entry_refusal f v columns o ≡ 0 → ⊥) → k ≡ entry_refusal f v columns o) → (entry_refusal f v columns o ≡ 0 → k ≡ 9 → Blocked v columns o.kind)
    → (entry_refusal f v columns o ≡ 0 → k ≡ 10 → Below f v columns o o.kind) → ⊥
lent_made_up f v columns o k c h checked blocked below = go (eqb (entry_refusal f v columns o) 0) refl
  where
    by_check : k ≡ entry_refusal f v columns o → ⊥
    by_check e =
        ⊎_elim (λ (n : k ≡ 9). checks f v columns o (omega arith) (omega arith)) (λ (n : k ≡ 10). checks f v columns o (omega arith) (omega arith)) c

    go : (b : Bool) → eqb (entry_refusal f v columns o) 0 ≡ b → ⊥
    go true e =
        let z = eqb-true (entry_refusal f v columns o) 0 e in
        ⊎_elim (λ n. not_blocked f v columns o h o.kind (blocked z n)) (λ n. not_below f v columns o h o.kind (below z n)) c
    go false e = by_check (checked (eqb-false (entry_refusal f v columns o) 0 e))

-- with another count every previous pattern that fits is as good as a reached one
pub reasons : Reasons
reasons =
    record {
      begins = begins;
      kept = kept;
      follows = follows;
      reached = λ s deck k a n r w e. ran _ (reaches s k) (reaches_reached s deck k).made r a w n e;
      valid = reached_valid;
      others = λ f v columns o n h. reached_valid f v columns o (record { of_8 = λ e. absurd (n e); fits = h });
      lent = λ f v columns o r s a k buffer e c h.
          let b = claims f v columns o r buffer in
          let d = (b.refuses a k s e).condition in
          lent_made_up f v columns o k c h d.checked (λ z n. b.blocked a z (d.blocked z n)) (λ z n. b.off a z (d.off z n));
    }
