-- A value at a time, and the times between which it is the same. Assumes nothing.
use Rattle.std.specs.Prelude.{◌≡◌, ℕ, ◌+◌, ◌-◌, ◌≤◌, Bool, true, false, not, ◌&&◌, List, Float}
use Rattle.std.proofs.Common.{arith}
use Rattle.std.specs.Float.Ieee.{le}
use Rattle.model.specs.ControlPoint.{beat_at, velocity_at, kiai_at}
use Rattle.record.specs.declared.section.Section.{Section}
use Rattle.record.specs.declared.section.Section.TheVariants.{TimingPoints, DifficultyPoints, EffectPoints}
use Rattle.record.specs.Layout as At
use Rattle.record.specs.Section.{timing_points, difficulty_points, effect_points}
use Rattle.record.specs.Lookup.{times, up_to}
use Rattle.points.specs.declared.Passed.{Passed}
use Rattle.points.specs.declared.Lasting.{Lasting}

-- how many of n points from bit p on are passed at the time t
abbrev pub passed : Section → List ℕ → ℕ → ℕ → Float → ℕ
passed k s p n t = up_to t (times k s p n)

-- at the time t, `from` is passed and `until` is not
abbrev pub within : Passed → Float → Bool
within p t = le p.from t && not (le p.until t)

-- of n points, so many are passed from a time on; `number` says how many are at each time
abbrev pub Reached : (Float → ℕ) → ℕ → Float → Type 0
Reached number k from = (t : Float) → le from t ≡ true → k ≤ number t

abbrev pub Known : (Float → ℕ) → ℕ → Passed → Type 0
Known number n p = (p.number ≤ n) × Reached number p.number p.from

-- the value of f is the same between the two times
pub record Lasts {A : Type 0} (f : Float → A) (number : Float → ℕ) (n : ℕ) (value : A) (p : Passed) : Type 0 where
  pub known : Known number n p
  pub same : (t : Float) → within p t ≡ true → value ≡ f t

-- the number of points itself, the beat length, which changes with the points after the first, the slider velocity and kiai
abbrev pub NumberLasts : Section → List ℕ → ℕ → ℕ → Passed → Type 0
NumberLasts k s p n r = Lasts (passed k s p n) (passed k s p n) n r.number r

abbrev pub BeatLasts : List ℕ → ℕ → ℕ → Lasting Float → Type 0
BeatLasts s p n c = Lasts (beat_at (timing_points s p n)) (passed TimingPoints s (p + At.entry) (n - 1)) (n - 1) c.value c.passed

abbrev pub VelocityLasts : List ℕ → ℕ → ℕ → Lasting Float → Type 0
VelocityLasts s p n c = Lasts (velocity_at (difficulty_points s p n)) (passed DifficultyPoints s p n) n c.value c.passed

abbrev pub KiaiLasts : List ℕ → ℕ → ℕ → Lasting Bool → Type 0
KiaiLasts s p n c = Lasts (kiai_at (effect_points s p n)) (passed EffectPoints s p n) n c.value c.passed

-- no point is passed, and any value lasts between a time and itself: at no time
pub lasts_never : {A : Type 0} (f : Float → A) (number : Float → ℕ) (n : ℕ) (v : A) (t : Float) → Lasts f number n v (record { number = 0; from = t; until = t })
lasts_never f number n v t = record { known = (omega arith, (λ u h. omega arith)); same = (λ u h. never (le t u) h) }
  where
    never : {u : Float} (b : Bool) → (b && not b) ≡ true → v ≡ f u
    never true h = cc
    never false h = cc
