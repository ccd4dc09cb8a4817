-- Laws of the lookup: how many points are passed at a time, how long there are as many, and what their number says of the point in force. Assumes nothing.
use Rattle.std.specs.Prelude.{if◌then◌else◌}
use mathlib.Core.Path.{◌≡◌, refl, sym, ap, ◌∙◌}
use Prim.Native.Nat.{ℕ, zero, suc, ◌+◌, ◌-◌, ◌*◌, ◌≤◌, ◌<◌}
use mathlib.Core.Bool.{Bool, true, false, not, ◌&&◌, cond}
use mathlib.Core.List.{List, [], ◌∷◌}
use native.Mathlib.Nat.{add-zero, mul-le-mul_left}
use native.Mathlib.Omega.{arith}
use lib.Dec.{eqb}
use lib.Ieee.{Float, binary64, round, lt, le}
use Rattle.model.specs.Limits.{most_entries}
use Rattle.bits.specs.Field.{bits}
use Rattle.floats.specs.Laws.Order.{lt_le}
use Rattle.model.specs.declared.TimingPoint.{TimingPoint}
use Rattle.model.specs.declared.DifficultyPoint.{DifficultyPoint}
use Rattle.model.specs.declared.EffectPoint.{EffectPoint}
use Rattle.model.specs.ControlPoint.{beat_from, beat_at, velocity_from, velocity_at, kiai_from, kiai_at}
use Rattle.record.specs.declared.section.Section.{Section}
use Rattle.record.specs.declared.section.Section.TheVariants.{TimingPoints, DifficultyPoints, EffectPoints}
use Rattle.record.specs.Layout as At
use Rattle.record.specs.Refusal.{f64_at, entries}
use Rattle.record.specs.Section.{width_of, entry_end, read_timing_point, read_difficulty_point, read_effect_point, timing_points, difficulty_points, effect_points}
use Rattle.record.specs.Lookup.{times, up_to, Rising}
use Rattle.record.specs.Laws.Entries.{entries_cons}
use Rattle.points.specs.declared.Passed.{Passed}
use Rattle.points.specs.Lasting.{passed, Reached, Lasts, NumberLasts}

-- the times, by the width of the entries as a number
times_by : (k : Section) (s : List ℕ) (p n w : ℕ) → w ≡ width_of k → entries (f64_at s) (λ q. q + w) p n ≡ times k s p n
unfolding times
times_by k s p n w e = rw e

-- the same of what says that they rise
rising_by : (k : Section) (s : List ℕ) (p n w : ℕ) → w ≡ width_of k → Rising k s p n → (i : ℕ) → i + 1 < n → lt (f64_at s (p + w * i)) (f64_at s (p + w * (i + 1))) ≡ true
unfolding Rising
rising_by k s p n w e r i l = rw e (r i l)

-- the points after the first rise too
pub rising_rest : (s : List ℕ) (p n : ℕ) → Rising TimingPoints s p n → Rising TimingPoints s (p + At.entry) (n - 1)
unfolding Rising
rising_rest s p n r i l =
    let a : p + At.entry * (i + 1) ≡ p + At.entry + At.entry * i = omega arith in
    let b : p + At.entry * (i + 1 + 1) ≡ p + At.entry + At.entry * (i + 1) = omega arith in
    rw (a, b) at (r (i + 1) (omega arith))

-- an entry of a list is near its start
pub near : (w m : ℕ) → w ≤ At.entry → m ≤ most_entries → w * m ≤ 524160
near w m h k = omega (arith, mul-le-mul_left w k)

-- how many of n entries of w bits from bit p on are passed at the time t
module _ (t : Float) (key : ℕ → Float) (w : ℕ) where
  abbrev count : ℕ → ℕ → ℕ
  count p n = up_to t (entries key (λ q. q + w) p n)

  moved : (p j : ℕ) → p + w * suc j ≡ p + w + w * j
  moved p j = omega arith

  here : (p : ℕ) → p + w * 0 ≡ p
  here p = omega arith

  count_le : (n p : ℕ) → count p n ≤ n
  unfolding up_to entries
  count_le zero p = omega arith
  count_le (suc n) p = by (le (key p) t) (count_le n (p + w))
    where
      by : (b : Bool) → count (p + w) n ≤ n → cond b (suc (count (p + w) n)) 0 ≤ suc n
      by true h = omega arith
      by false h = omega arith

  -- the first r are passed
  count_ge : (r n p : ℕ) → r ≤ n → ((j : ℕ) → j < r → le (key (p + w * j)) t ≡ true) → r ≤ count p n
  unfolding up_to entries
  count_ge zero n p l h = omega arith
  count_ge (suc r) zero p l h = absurd (omega arith)
  count_ge (suc r) (suc n) p l h =
      let e : le (key p) t ≡ true = rw (here p) at (h 0 (omega arith)) in
      let m = count_ge r n (p + w) (omega arith) (λ j k. rw (moved p j) at (h (suc j) (omega arith))) in
      rw e (omega arith)

  -- r are, and the next is not
  count_is : (r n p : ℕ) → r < n → r ≤ count p n → le (key (p + w * r)) t ≡ false → r ≡ count p n
  unfolding up_to entries
  count_is r zero p l h k = absurd (omega arith)
  count_is zero (suc n) p l h k =
      let e : le (key p) t ≡ false = rw (here p) at k in
      rw e
  count_is (suc r) (suc n) p l h k = by (le (key p) t) h (count_is r n (p + w) (omega arith)) (rw (moved p r) at k)
    where
      by : (b : Bool) → suc r ≤ cond b (suc (count (p + w) n)) 0 → (r ≤ count (p + w) n → le (key (p + w + w * r)) t ≡ false → r ≡ count (p + w) n)
          → le (key (p + w + w * r)) t ≡ false → suc r ≡ cond b (suc (count (p + w) n)) 0
      by true m f e = ap suc (f (omega arith) e)
      by false m f e = absurd (omega arith)

  module _ (p n : ℕ) (rising : (i : ℕ) → i + 1 < n → lt (key (p + w * i)) (key (p + w * (i + 1))) ≡ true) where
    -- with an entry, those before it are passed: d is how far before
    down : (d i : ℕ) → i + d < n → le (key (p + w * (i + d))) t ≡ true → le (key (p + w * i)) t ≡ true
    down zero i l h = rw add-zero at h
    down (suc d) i l h =
        let e : i + suc d ≡ i + 1 + d = omega arith in
        lt_le (key (p + w * i)) (key (p + w * (i + 1))) t (rising i (omega arith)) (down d (i + 1) (omega arith) (rw e at h))

    count_up : (m : ℕ) → m < n → le (key (p + w * m)) t ≡ true → m + 1 ≤ count p n
    count_up m l h = count_ge (m + 1) n p (omega arith) (λ j k. let e : m ≡ j + (m - j) = omega arith in down (m - j) j (omega arith) (rw e at h))

split : (a b : Bool) → (a && not b) ≡ true → (a ≡ true) × (b ≡ false)
split true false h = (refl, refl)
split true true h = (refl, cc)
split false b h = (h, cc)

-- how many of n points from bit p on are passed, where the code takes them to be w wide
abbrev pub amount : List ℕ → ℕ → ℕ → ℕ → Float → ℕ
amount s w p n t = count t (f64_at s) w p n

module _ (k : Section) (s : List ℕ) (p n w : ℕ) (e : w ≡ width_of k) where
  amount_is : (t : Float) → amount s w p n t ≡ passed k s p n t
  amount_is t = ap (up_to t) (times_by k s p n w e)

  module _ (r : ℕ) where
    pub reached_at : (t : Float) → r ≤ passed k s p n t → r ≤ amount s w p n t
    reached_at t h = rw (amount_is t) h

    -- one point more
    pub reached_up : Rising k s p n → r < n → (time : Float) → time ≡ f64_at s (p + w * r) → Reached (amount s w p n) (r + 1) time
    reached_up rises l time f t h = count_up t (f64_at s) w p n (rising_by k s p n w e rises) r l (rw f at h)

    module _ (from until : Float) (reached : Reached (amount s w p n) r from) where
      abbrev so : Passed
      so = record { number = r; from = from; until = until }

      lasting : r ≤ n → ((t : Float) → r ≤ amount s w p n t → le until t ≡ false → r ≡ passed k s p n t) → NumberLasts k s p n so
      lasting l same =
          record {
            known = (l, (λ t h. rw (amount_is t) at (reached t h)));
            same = (λ t h. let v = split (le from t) (le until t) h in same t (reached t v.0) v.1);
          }

      -- before the next point
      pub found_before : r < n → until ≡ f64_at s (p + w * r) → (t : Float) → r ≤ amount s w p n t → le until t ≡ false → (r ≡ passed k s p n t) × NumberLasts k s p n so
      found_before l f t h g = (same t h g, lasting (omega arith) same)
        where
          same : (t : Float) → r ≤ amount s w p n t → le until t ≡ false → r ≡ passed k s p n t
          same t h g = count_is t (f64_at s) w r n p l h (rw f at g) ∙ amount_is t

      -- all points are passed
      pub found_after : r ≡ n → (t : Float) → r ≤ amount s w p n t → (r ≡ passed k s p n t) × NumberLasts k s p n so
      found_after l t h = (same t h, lasting (omega arith) (λ u g o. same u g))
        where
          same : (t : Float) → r ≤ amount s w p n t → r ≡ passed k s p n t
          same t h =
              let i : r ≡ amount s w p n t = omega (arith, count_le t (f64_at s) w n p) in
              i ∙ amount_is t

-- a value that the number of points passed says lasts as long as that number
pub found_of : {A : Type 0} (f : Float → A) (number : Float → ℕ) (n : ℕ) (t : Float) (v : A) (p : Passed) → ((u : Float) → p.number ≡ number u → v ≡ f u)
    → (p.number ≡ number t) × Lasts number number n p.number p → (v ≡ f t) × Lasts f number n v p
found_of f number n t v p h (e, l) = (h t e, record { known = l.known; same = (λ u w. h u (l.same u w)) })

-- A value that goes from one point to the next as long as they are not after t, as `beat_from`, `velocity_from` and `kiai_from` do.
module _ {A B : Type 0} (time : A → Float) (value : A → B) (from : B → List A → Float → B) (entry : ℕ → A) (key : ℕ → Float) (w : ℕ) (t : Float)
    (ends : (b : B) → from b [] t ≡ b) (goes : (b : B) (x : A) (xs : List A) → from b (x ∷ xs) t ≡ (if le (time x) t then from (value x) xs t else b))
    (same : (p : ℕ) → time (entry p) ≡ key p) where
  abbrev number : ℕ → ℕ → ℕ
  number = count t key w

  -- after the point at p, the value is that of the last of the points that follow and are not after t
  in_force : (n p : ℕ) → from (value (entry p)) (entries entry (λ q. q + w) (p + w) n) t ≡ value (entry (p + w * number (p + w) n))
  unfolding entries up_to
  in_force zero p = ends (value (entry p)) ∙ ap (λ (q : ℕ). value (entry q)) (omega arith)
  in_force (suc n) p =
      goes (value (entry p)) (entry (p + w)) (entries entry (λ q. q + w) (p + w + w) n)
      ∙ (ap (λ (x : Float). if le x t then from (value (entry (p + w))) (entries entry (λ q. q + w) (p + w + w) n) t else value (entry p)) (same (p + w))
      ∙ by (le (key (p + w)) t) (in_force n (p + w)))
    where
      by : (b : Bool) → from (value (entry (p + w))) (entries entry (λ q. q + w) (p + w + w) n) t ≡ value (entry (p + w + w * number (p + w + w) n))
          → (if b then from (value (entry (p + w))) (entries entry (λ q. q + w) (p + w + w) n) t else value (entry p))
          ≡ value (entry (p + w * cond b (suc (number (p + w + w) n)) 0))
      by true h = h ∙ ap (λ (q : ℕ). value (entry q)) (omega arith)
      by false h = ap (λ (q : ℕ). value (entry q)) (omega arith)

  -- the value before the first point, or that of the last point that is not after t
  in_force_or : (n p : ℕ) (b : B) (u : ℕ) → u ≡ number p n → ((u ≡ 0) → from b (entries entry (λ q. q + w) p n) t ≡ b)
      × ((u ≡ 0 → ⊥) → from b (entries entry (λ q. q + w) p n) t ≡ value (entry (p + w * (u - 1))))
  unfolding entries up_to
  in_force_or zero p b u e = ((λ z. ends b), (λ z. absurd (z e)))
  in_force_or (suc n) p b u e = (
    (λ z. first ∙ by_none (le (key p) t) (sym e ∙ z)),
    (λ z. first ∙ by_some (le (key p) t) z e),
  )
    where
      rest : B
      rest = from (value (entry p)) (entries entry (λ q. q + w) (p + w) n) t

      first : from b (entry p ∷ entries entry (λ q. q + w) (p + w) n) t ≡ (if le (key p) t then rest else b)
      first = goes b (entry p) (entries entry (λ q. q + w) (p + w) n) ∙ ap (λ (x : Float). if le x t then rest else b) (same p)

      by_none : (c : Bool) → cond c (suc (number (p + w) n)) 0 ≡ 0 → (if c then rest else b) ≡ b
      by_none true h = absurd (omega arith)
      by_none false h = refl

      by_some : (c : Bool) → (u ≡ 0 → ⊥) → u ≡ cond c (suc (number (p + w) n)) 0 → (if c then rest else b) ≡ value (entry (p + w * (u - 1)))
      by_some true x h =
          let f : u - 1 ≡ number (p + w) n = omega arith in
          rw f (in_force n p)
      by_some false x h = absurd (x h)

-- the three lookups of the conversion

beat_none : (b t : Float) → beat_from b [] t ≡ b
unfolding beat_from
beat_none b t = refl

beat_some : (b : Float) (x : TimingPoint) (xs : List TimingPoint) (t : Float) → beat_from b (x ∷ xs) t ≡ (if le x.time t then beat_from x.beat xs t else b)
unfolding beat_from
beat_some b x xs t = refl

beat_cons : (x : TimingPoint) (xs : List TimingPoint) (t : Float) → beat_at (x ∷ xs) t ≡ beat_from x.beat xs t
unfolding beat_at
beat_cons x xs t = refl

velocity_none : (b t : Float) → velocity_from b [] t ≡ b
unfolding velocity_from
velocity_none b t = refl

velocity_some : (b : Float) (x : DifficultyPoint) (xs : List DifficultyPoint) (t : Float)
    → velocity_from b (x ∷ xs) t ≡ (if le x.time t then velocity_from x.velocity xs t else b)
unfolding velocity_from
velocity_some b x xs t = refl

kiai_none : (b : Bool) (t : Float) → kiai_from b [] t ≡ b
unfolding kiai_from
kiai_none b t = refl

kiai_some : (b : Bool) (x : EffectPoint) (xs : List EffectPoint) (t : Float) → kiai_from b (x ∷ xs) t ≡ (if le x.time t then kiai_from x.kiai xs t else b)
unfolding kiai_from
kiai_some b x xs t = refl

module _ (s : List ℕ) where
  timing_time : (p : ℕ) → (read_timing_point s p).time ≡ f64_at s p
  unfolding read_timing_point
  timing_time p = refl

  timing_beat : (p : ℕ) → (read_timing_point s p).beat ≡ f64_at s (p + At.second)
  unfolding read_timing_point
  timing_beat p = refl

  difficulty_time : (p : ℕ) → (read_difficulty_point s p).time ≡ f64_at s p
  unfolding read_difficulty_point
  difficulty_time p = refl

  difficulty_velocity : (p : ℕ) → (read_difficulty_point s p).velocity ≡ f64_at s (p + At.second)
  unfolding read_difficulty_point
  difficulty_velocity p = refl

  effect_time : (p : ℕ) → (read_effect_point s p).time ≡ f64_at s p
  unfolding read_effect_point
  effect_time p = refl

  effect_kiai : (p : ℕ) → (read_effect_point s p).kiai ≡ eqb (bits s (p + At.second) 1) 1
  unfolding read_effect_point
  effect_kiai p = refl

  pub beat_default : (p n : ℕ) (t : Float) → n ≡ 0 → beat_at (timing_points s p n) t ≡ round binary64 false 1000 1
  unfolding beat_at timing_points entries
  beat_default p n t e = rw e

  -- before the first timing point, the first; then the last that is not after t
  pub beat_at_law : (p n : ℕ) (t : Float) (u : ℕ) → u ≡ passed TimingPoints s (p + At.entry) (n - 1) t → 0 < n → beat_at (timing_points s p n) t ≡ f64_at s (p + At.entry * u + At.second)
  unfolding timing_points times
  beat_at_law p n t u e h =
      ap (λ (l : List TimingPoint). beat_at l t) (entries_cons (read_timing_point s) (entry_end TimingPoints) p n h)
      ∙ (beat_cons _ _ t
      ∙ (in_force (λ (x : TimingPoint). x.time) (λ (x : TimingPoint). x.beat) beat_from (read_timing_point s) (f64_at s) At.entry t (λ b. beat_none b t)
      (λ b x xs. beat_some b x xs t)
      timing_time
      (n - 1)
      p
      ∙ (timing_beat _ ∙ ap (λ (k : ℕ). f64_at s (p + At.entry * k + At.second)) (sym e))))

  module _ (p n : ℕ) (t : Float) (u : ℕ) where
    velocity_by : u ≡ passed DifficultyPoints s p n t
        → ((u ≡ 0) → velocity_at (difficulty_points s p n) t ≡ round binary64 false 1 1)
        × ((u ≡ 0 → ⊥) → velocity_at (difficulty_points s p n) t ≡ (read_difficulty_point s (p + At.entry * (u - 1))).velocity)
    unfolding difficulty_points times velocity_at
    velocity_by e =
        in_force_or (λ (x : DifficultyPoint). x.time) (λ (x : DifficultyPoint). x.velocity) velocity_from (read_difficulty_point s) (f64_at s) At.entry t (λ b. velocity_none b t)
        (λ b x xs. velocity_some b x xs t)
        difficulty_time
        n
        p
        (round binary64 false 1 1)
        u
        e

    pub velocity_first : u ≡ passed DifficultyPoints s p n t → u ≡ 0 → velocity_at (difficulty_points s p n) t ≡ round binary64 false 1 1
    velocity_first e z = (velocity_by e).0 z

    pub velocity_last : u ≡ passed DifficultyPoints s p n t → (u ≡ 0 → ⊥) → velocity_at (difficulty_points s p n) t ≡ f64_at s (p + At.entry * (u - 1) + At.second)
    velocity_last e z = (velocity_by e).1 z ∙ difficulty_velocity _

    kiai_by : u ≡ passed EffectPoints s p n t
        → ((u ≡ 0) → kiai_at (effect_points s p n) t ≡ false) × ((u ≡ 0 → ⊥) → kiai_at (effect_points s p n) t ≡ (read_effect_point s (p + At.effect_entry * (u - 1))).kiai)
    unfolding effect_points times kiai_at
    kiai_by e =
        in_force_or (λ (x : EffectPoint). x.time) (λ (x : EffectPoint). x.kiai) kiai_from (read_effect_point s) (f64_at s) At.effect_entry t (λ b. kiai_none b t)
        (λ b x xs. kiai_some b x xs t)
        effect_time
        n
        p
        false
        u
        e

    pub kiai_first : u ≡ passed EffectPoints s p n t → u ≡ 0 → kiai_at (effect_points s p n) t ≡ false
    kiai_first e z = (kiai_by e).0 z

    pub kiai_last : u ≡ passed EffectPoints s p n t → (u ≡ 0 → ⊥) → kiai_at (effect_points s p n) t ≡ eqb (bits s (p + At.effect_entry * (u - 1) + At.second) 1) 1
    kiai_last e z = (kiai_by e).1 z ∙ effect_kiai _
