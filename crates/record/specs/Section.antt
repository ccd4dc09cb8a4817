-- The four lists whose entries have one width: breaks, timing points, difficulty points and effect points. Assumes nothing.
use Rattle.std.specs.Prelude.{ℕ, ◌+◌, Bool, not, true, ◌||◌, List, [], ◌∷◌, eqb, Float}
use Rattle.std.specs.Float.{binary64}
use Rattle.std.specs.Float.Ieee.{round, lt}
use Rattle.rules.specs.Numbers as Numbers
use Rattle.model.specs.Limits.{latest_start, time_range, beat_range, velocity_range}
use Rattle.bits.specs.Field.{bits}
use Rattle.model.specs.declared.BreakPeriod.{BreakPeriod}
use Rattle.model.specs.declared.TimingPoint.{TimingPoint}
use Rattle.model.specs.declared.DifficultyPoint.{DifficultyPoint}
use Rattle.model.specs.declared.EffectPoint.{EffectPoint}
use Rattle.record.specs.declared.section.Section.{Section}
use Rattle.record.specs.declared.section.Section.TheVariants.{Breaks, TimingPoints, DifficultyPoints, EffectPoints}
use Rattle.record.specs.Layout as At
use Rattle.record.specs.Refusal.{Field, field, plain, out64, fields_refusal, f64_at, entries_refusal, entries}

-- the bits of an entry
abbrev pub width_of : Section → ℕ
width_of Breaks = At.entry
width_of TimingPoints = At.entry
width_of DifficultyPoints = At.entry
width_of EffectPoints = At.effect_entry

-- where the entry at bit p ends
abbrev pub entry_end : Section → ℕ → ℕ
entry_end k p = p + width_of k

-- a break or point time
abbrev pub bad_time : List ℕ → ℕ → Bool
bad_time s p = out64 s p time_range

abbrev pub time_field : List ℕ → ℕ → Field
time_field s p = field p 64 (bad_time s p) Numbers.break_or_point

-- a point's time, after one at the time `before`: times rise strictly
abbrev pub point_time : List ℕ → ℕ → Float → Field
point_time s p before = field p 64 (bad_time s p || not (lt before (f64_at s p))) Numbers.break_or_point

abbrev pub beat_field : List ℕ → ℕ → Field
beat_field s p = field p 64 (out64 s p beat_range) Numbers.break_or_point

abbrev pub velocity_field : List ℕ → ℕ → Field
velocity_field s p = field p 64 (out64 s p velocity_range) Numbers.break_or_point

-- The entry at bit p. A break's start is not above its end, and breaks have no order.
abbrev pub entry_fields : Section → List ℕ → ℕ → Float → List Field
entry_fields Breaks s p before = time_field s p ∷ field (p + At.second) 64 (bad_time s (p + At.second) || lt (f64_at s (p + At.second)) (f64_at s p)) Numbers.break_or_point ∷ []
entry_fields TimingPoints s p before = point_time s p before ∷ beat_field s (p + At.second) ∷ []
entry_fields DifficultyPoints s p before = point_time s p before ∷ velocity_field s (p + At.second) ∷ []
entry_fields EffectPoints s p before = point_time s p before ∷ plain (p + At.second) 1 ∷ []

unfoldable pub entry_refusal : Section → List ℕ → ℕ → Float → ℕ
unfolding fields_refusal
entry_refusal k s p before = fields_refusal s (entry_fields k s p before)

-- below every time: stands before the first point's
unfoldable pub no_time : Float
unfolding round
no_time = round binary64 true (latest_start + 1) 1

-- n entries from bit p on
unfoldable pub section_refusal : Section → List ℕ → ℕ → ℕ → ℕ
unfolding entry_refusal f64_at no_time entries_refusal
section_refusal k s p n = entries_refusal (entry_refusal k s) (entry_end k) (f64_at s) p no_time n

-- the values of an entry at bit p
unfoldable pub read_break : List ℕ → ℕ → BreakPeriod
unfolding f64_at
read_break s p = record { start = f64_at s p; end = f64_at s (p + At.second) }

unfoldable pub read_timing_point : List ℕ → ℕ → TimingPoint
unfolding f64_at
read_timing_point s p = record { time = f64_at s p; beat = f64_at s (p + At.second) }

unfoldable pub read_difficulty_point : List ℕ → ℕ → DifficultyPoint
unfolding f64_at
read_difficulty_point s p = record { time = f64_at s p; velocity = f64_at s (p + At.second) }

unfoldable pub read_effect_point : List ℕ → ℕ → EffectPoint
unfolding f64_at
read_effect_point s p = record { time = f64_at s p; kiai = eqb (bits s (p + At.second) 1) 1 }

-- the n entries from bit p on
unfoldable pub breaks : List ℕ → ℕ → ℕ → List BreakPeriod
unfolding read_break entries
breaks s p n = entries (read_break s) (entry_end Breaks) p n

unfoldable pub timing_points : List ℕ → ℕ → ℕ → List TimingPoint
unfolding read_timing_point entries
timing_points s p n = entries (read_timing_point s) (entry_end TimingPoints) p n

unfoldable pub difficulty_points : List ℕ → ℕ → ℕ → List DifficultyPoint
unfolding read_difficulty_point entries
difficulty_points s p n = entries (read_difficulty_point s) (entry_end DifficultyPoints) p n

unfoldable pub effect_points : List ℕ → ℕ → ℕ → List EffectPoint
unfolding read_effect_point entries
effect_points s p n = entries (read_effect_point s) (entry_end EffectPoints) p n
