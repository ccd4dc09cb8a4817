-- The bench table's rows marked M, and the small examples of the refusals that the rules give, computed. `double a b` is the f64 nearest to
-- a / b. Assumes nothing.
use Rattle.std.specs.Prelude.{Some, None}
use mathlib.Core.Path.{◌≡◌, refl, ap, ◌∙◌}
use Prim.Native.Nat.{ℕ, zero, suc, ◌-◌, ◌^◌}
use mathlib.Core.Bool.{true, false}
use mathlib.Core.List.{List, [], ◌∷◌, ◌++◌}
use lib.IntN.{pos}
use lib.Ieee.{Float, binary64, round}
use lib.ListN.{replicate}
use Rattle.rules.specs.Rule.{ended, refused, spent, run}
use Rattle.rules.specs.Refusal.{too_short, ObjectRule}
use Rattle.random.specs.Generator.{twisted, mixed, next, low, values, seeded, between}
use Rattle.random.specs.declared.Random.{Random}
use Rattle.random.specs.Rows as Rows
use Rattle.floats.specs.Whole.{whole}
use Rattle.floats.specs.declared.Way.TheVariants.{Even}
use Rattle.model.specs.declared.Settings.{Settings}
use Rattle.model.specs.declared.Kind.{Kind}
use Rattle.model.specs.declared.Kind.TheVariants.{Circle, Slider, Spinner, Hold}
use Rattle.mania.specs.declared.Stair.{Stair}
use Rattle.mania.specs.declared.Stair.TheVariants.{Up, Reverse}
use Rattle.model.specs.declared.Object.{Object}
use Rattle.mania.specs.declared.Facts.{Facts}
use Rattle.mania.specs.declared.PrevValues.{PrevValues}
use Rattle.mania.specs.declared.Note.{Note}
use Rattle.mania.specs.declared.HitObjectPatternGenerator.{HitObjectPatternGenerator}
use Rattle.mania.specs.Steps.{single, double}
use Rattle.mania.specs.PatternType.{reverse}
use Rattle.mania.specs.Made.{Made, circle}
use Rattle.mania.specs.EndTimeObject.{lasting, end_note}
use Rattle.mania.specs.HitObject.{generate_core}
use Rattle.mania.specs.PathObject.{start_time, end_time, span_length}
use Rattle.model.specs.Song.{Song}
use Rattle.mania.specs.LimitedQueue.{unknown_density}
use Rattle.mania.specs.Convert.{at, seed, target_columns, song_facts, facts_at, convert}
use Rattle.mania.specs.Single.{Single, with_room, single_object}
use Rattle.mania.specs.Single as Single
use Rattle.chart.specs.declared.Version.TheVariants.{Two}
use Rattle.chart.specs.Chart.{encode}
use Rattle.chart.specs.Order.{arranged}
use Rattle.mania.specs.Chart.{patterns_from}
use Rattle.mania.proofs.Computing.{computing}

abbrev settings : Float → Float → Float → Float → Settings
settings hp cs od ar = record { hp = hp; cs = cs; od = od; ar = ar; multiplier = double 1 1 }

abbrev object_of : Float → ℕ → Kind → Object
object_of start sound kind = record { position = record { x = single 0 1; y = single 0 1 }; start = start; sound = sound; kind = kind }

-- ---- M: seed words from 0: the first value, and what it means from 0 up to 9 and up to 7

first_value : low (next (seeded 0)) ≡ 273327012
first_value = Rows.first_value

first_of_nine : between 0 9 (low (next (seeded 0))) ≡ 1
first_of_nine = Rows.first_of_nine

first_of_seven : between 0 7 (low (next (seeded 0))) ≡ 0
first_of_seven = Rows.first_of_seven

-- ---- M: seeds

seed_160 : seed (settings (single 45 10) (single 4 1) (single 0 1) (single 0 1)) ≡ 160
unfolding computing
seed_160 = refl

seed_518 : seed (settings (single 5 1) (single 4 1) (single 8 1) (single 9 1)) ≡ 518
unfolding computing
seed_518 = refl

-- ---- M: rounding 1000.5 to 1000, 1001.5 to 1002, −0.5 to 0

rounds_down : whole Even (double 10005 10) ≡ pos 1000
unfolding computing
rounds_down = refl

rounds_up : whole Even (double 10015 10) ≡ pos 1002
unfolding computing
rounds_up = refl

rounds_to_zero : whole Even (round binary64 true 5 10) ≡ pos 0
unfolding computing
rounds_to_zero = refl

-- ---- M: columns by the share of sliders and spinners

-- spinners, then circles
abbrev shared : ℕ → ℕ → List Object
shared spinners circles = replicate spinners (object_of (double 0 1) 0 (Spinner (double 0 1))) ++ replicate circles (object_of (double 0 1) 0 Circle)

share_2_od_5 : target_columns (settings (single 0 1) (single 0 1) (single 5 1) (single 0 1)) (shared 2 8) ≡ 6
unfolding computing
share_2_od_5 = refl

share_2_od_5½ : target_columns (settings (single 0 1) (single 0 1) (single 55 10) (single 0 1)) (shared 2 8) ≡ 7
unfolding computing
share_2_od_5½ = refl

share_6_cs_4_od_8 : target_columns (settings (single 0 1) (single 4 1) (single 8 1) (single 0 1)) (shared 6 4) ≡ 7
unfolding computing
share_6_cs_4_od_8 = refl

-- ---- M: slider times

abbrev song_of : ℕ → List Object → Song
song_of key objects =
    record {
      keys = key;
      settings = settings (single 0 1) (single 0 1) (single 0 1) (single 0 1);
      breaks = [];
      timing_points = [];
      difficulty_points = [];
      effect_points = [];
      objects = objects;
    }

abbrev slider : ℕ → Float → Object
slider repeats distance = object_of (double 10004 10) 0 (Slider repeats (Some distance) None)

-- the facts in force at an object, in a song of that object and without points
abbrev no_points : Object → Facts
no_points o = facts_at (song_facts (song_of 0 (o ∷ []))) unknown_density o

-- then the beat lasts 1000, and the velocity is 1
no_points_law : (o : Object) → ((no_points o).beat ≡ double 1000 1) × ((no_points o).velocity ≡ double 1 1)
unfolding computing
no_points_law o = (refl, refl)

-- start 1000.4, distance 100
abbrev plain : Object
plain = slider 0 (double 100 1)

slider_starts : start_time plain ≡ 1000
unfolding computing
slider_starts = refl

slider_ends : end_time (no_points plain) plain 1 (Some (double 100 1)) ≡ 2000
unfolding computing
slider_ends = refl

-- 3 spans: they last 1,000 ms together, and 333 each
abbrev spans : Object
spans = slider 2 (double 100 3)

spans_1000 : end_time (no_points spans) spans 3 (Some (double 100 3)) - start_time spans ≡ 1000
unfolding computing
spans_1000 = refl

span_333 : span_length (no_points spans) spans 2 (Some (double 100 3)) ≡ 333
unfolding computing
span_333 = refl

-- ---- M: at 0 a spinner or hold of 99.9 is a circle, of 100 a hold that lasts as long

abbrev lasts : Float → Object
lasts duration = object_of (double 0 1) 0 (Hold duration)

-- its note, on column 0
abbrev note_for : Float → Note
note_for duration = end_note (lasts duration) (lasting (lasts duration) duration) 0

hold_99 : note_for (double 999 10) ≡ circle 0 (double 0 1)
unfolding computing
hold_99 = refl

hold_100 : note_for (double 100 1) ≡ record { column = 0; hold = true; start = double 0 1; duration = double 100 1 }
unfolding computing
hold_100 = refl

-- ---- M: mask {1}, 4 columns, reverse: column 2

abbrev reversing : HitObjectPatternGenerator
reversing =
    record {
      columns = 4;
      x = single 0 1;
      start = double 0 1;
      sound = 0;
      difficulty = double 0 1;
      mask = 2 ^ 1;
      last = 1;
      stair = Up;
      flags = reverse;
    }

reverse_2 : run (generate_core reversing) [] ≡ ended (record { mask = 2 ^ 2; last = 2; notes = circle 2 (double 0 1) ∷ [] }) 0
unfolding computing
reverse_2 = refl

-- ---- the job that `charttext` prints whole: key choice 9, settings 0, multiplier 1, one hold at 1000 for 300; 273327012 is the first value from seed 0

abbrev holding : Song
holding = song_of 9 (object_of (double 1000 1) 0 (Hold (double 300 1)) ∷ [])

abbrev held : Note
held = record { column = 1; hold = true; start = double 1000 1; duration = double 300 1 }

hold_song : run (convert holding 65536) (273327012 ∷ []) ≡ ended ((held ∷ []) ∷ []) 1
unfolding computing
hold_song = refl

hold_chart : encode Two 9 1 (arranged [] (patterns_from 0 ((held ∷ []) ∷ [])))
    ≡ 0x29 ∷ 0 ∷ 0 ∷ 1 ∷ 0 ∷ 0 ∷ 0 ∷ 1
    ∷ 0x18 ∷ 0 ∷ 0 ∷ 0x40 ∷ 0x8f ∷ 0x40 ∷ 0 ∷ 0 ∷ 0 ∷ 0 ∷ 0 ∷ 0x40 ∷ 0x72 ∷ 0xc0 ∷ 0 ∷ 0 ∷ 0 ∷ 0 ∷ 0 ∷ []
unfolding computing
hold_chart = refl

-- ---- the refusals' small examples. Of a single object: the number and the state that was lent, and nothing is written

abbrev facts : Facts
facts = record { difficulty = double 0 1; multiplier = double 1 1; beat = double 1000 1; velocity = double 1 1; kiai = false; density = double 0 1 }

-- a previous pattern by its mask and last column
abbrev previous : ℕ → ℕ → Stair → PrevValues
previous mask last stair =
    record { time = double 0 1; position = record { x = single 0 1; y = single 0 1 }; mask = mask; last = last; stair = stair }

-- from the state of seed 0, under an allowance of one draw, with room for one note
abbrev one : Facts → PrevValues → ℕ → Object → Single
one f v columns o = single_object f v columns o (seeded 0) 1 (replicate 19 165)

abbrev refused_by : ℕ → Single
refused_by number = Single.refusing number (seeded 0) (replicate 19 165)

-- 8: 131,072 long, beat 60,000, velocity 0.1
abbrev slow : Facts
slow = record { difficulty = double 0 1; multiplier = double 1 1; beat = double 60000 1; velocity = double 1 10; kiai = false; density = double 0 1 }

refusal_8 : one slow (previous 0 0 Up) 4 (object_of (double 0 1) 0 (Slider 0 (Some (double 131072 1)) None)) ≡ refused_by 8
unfolding computing
refusal_8 = refl

-- 9: spinner, 8 columns, mask 1 to 7, plain sound; the column is drawn before the search
refusal_9 : one facts (previous 254 7 Up) 8 (object_of (double 0 1) 0 (Spinner (double 0 1))) ≡ refused_by 9
unfolding computing
refusal_9 = refl

-- 10: reverse stair at 8 columns from column 0
refusal_10 : one facts (previous 1 0 Reverse) 8 (object_of (double 90 1) 0 Circle) ≡ refused_by 10
unfolding computing
refusal_10 = refl

-- 13: 4 columns, mask bit 4
refusal_13 : one facts (previous 16 4 Up) 4 (object_of (double 0 1) 0 Circle) ≡ refused_by 13
unfolding computing
refusal_13 = refl

-- 11, of a job: 7 bytes
refusal_11 : run (convert holding 7) (273327012 ∷ []) ≡ refused (at 0 too_short) 0
unfolding computing
refusal_11 = refl

-- and a buffer that has room for the header alone: after the object's draws
refusal_11_notes : run (convert holding 8) (273327012 ∷ []) ≡ refused (at 0 too_short) 1
unfolding computing
refusal_11_notes = refl

-- 12: allowance 0, hold with plain sound
refusal_12 : run (convert holding 65536) [] ≡ spent 0 0
unfolding computing
refusal_12 = refl

-- 16: from the state of four zeros every value is 0, which is column 0, and column 0 is taken. The first column is drawn before the search; after 4,096
-- draws more the search needs one beyond its limit
abbrev zeros : Random
zeros = record { x = 0; y = 0; z = 0; w = 0 }

-- hold with plain sound, 4 columns, mask bit 0
abbrev stuck : ℕ → Single
stuck allowance = single_object facts (previous 1 0 Up) 4 (object_of (double 0 1) 0 (Hold (double 300 1))) zeros allowance (165 ∷ [])

next_zero : next zeros ≡ zeros
unfolding next twisted mixed
next_zero = refl

zero_values : (n : ℕ) → values n zeros ≡ replicate n 0
unfolding values low
zero_values zero = refl
zero_values (suc n) = ap {B = List ℕ} (λ vs. low (next zeros) ∷ vs) (ap (values n) next_zero ∙ zero_values n) ∙ ap {B = List ℕ} (λ s. low s ∷ replicate n 0) next_zero

-- the object's rule on values
abbrev rule : ObjectRule Made
rule = with_room facts (previous 1 0 Up) 4 (object_of (double 0 1) 0 (Hold (double 300 1))) 1

on_zeros : (a : ℕ) → stuck a ≡ Single.ending zeros (165 ∷ []) (run rule (replicate a 0))
unfolding computing
on_zeros a = ap (λ (vs : List ℕ). Single.ending zeros (165 ∷ []) (run rule vs)) (zero_values a)

-- after 4,097 draws 16 is tested before 12: the number and the state that was lent, and nothing is written
refusal_16 : stuck 4097 ≡ Single.refusing 16 zeros (165 ∷ [])
unfolding computing
refusal_16 = on_zeros 4097

-- with one draw less it is 12
refusal_12_search : stuck 4096 ≡ Single.refusing 12 zeros (165 ∷ [])
unfolding computing
refusal_12_search = on_zeros 4096
