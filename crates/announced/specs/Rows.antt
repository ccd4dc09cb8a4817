-- Worked examples, computed. Assumes nothing.
use Rattle.std.specs.Prelude.{◌≡◌, refl, Float, None}
use Rattle.floats.specs.Whole.{count}
use Rattle.floats.specs.declared.Way.TheVariants.{Even}
use Rattle.mania.specs.Steps.{single, double}
use Rattle.mania.proofs.Computing.{computing}
use Rattle.announced.specs.declared.Bounds.{Bounds}
use Rattle.announced.specs.declared.Slider.{Slider}
use Rattle.announced.specs.Announced.{columns_refusal, setting_fits, facts_of, object_of, end_at, ends_refusal, nothing, rest_refusal, distance_fits}
use Rattle.announced.specs.Gathered.{gathered}

-- ---- the columns

-- od announced as 5.5 is from 5.45, which rounds to 5, to 5.55, which rounds to 6
rounds_to_5 : count Even (single 545 100) ≡ 5
unfolding computing
rounds_to_5 = refl

rounds_to_6 : count Even (single 555 100) ≡ 6
unfolding computing
rounds_to_6 = refl

-- 2 of 10 objects are sliders or spinners, cs 4: 6 or 7 columns
six_or_seven : gathered 2 10 4 4 5 2 ≡ 0b11000000
unfolding computing gathered
six_or_seven = refl

-- 5 of 10, od 4: 5 columns with cs 4, and 6 with cs 5
five_or_six : gathered 5 10 4 5 4 1 ≡ 0b1100000
unfolding computing gathered
five_or_six = refl

-- no objects, od from 3 to 6: what lies between the ends counts too
all_between : gathered 0 0 4 4 3 4 ≡ 0b11110000
unfolding computing gathered
all_between = refl

-- 5.55 to 5.45 is no range, and 10.05 is out of bounds; the counts come after
abbrev fourth : Bounds Float
fourth = record { low = single 395 100; high = single 405 100 }

abbrev falling : Bounds Float
falling = record { low = single 555 100; high = single 545 100 }

abbrev above_ten : Bounds Float
above_ten = record { low = single 995 100; high = single 1005 100 }

refused_falling : columns_refusal falling fourth 5 4 ≡ 20
unfolding computing columns_refusal setting_fits
refused_falling = refl

refused_above : columns_refusal fourth above_ten 2 10 ≡ 20
unfolding computing columns_refusal setting_fits
refused_above = refl

refused_counts : columns_refusal fourth fourth 5 4 ≡ 21
unfolding computing columns_refusal setting_fits
refused_counts = refl

refused_many : columns_refusal fourth fourth 0 4096 ≡ 21
unfolding computing columns_refusal setting_fits
refused_many = refl

-- ---- a slider's end

-- the slider of document 01's row: start 1000.4, no points, multiplier 1
abbrev slider : Slider
slider =
    record {
      multiplier = double 1 1;
      beat = double 1000 1;
      velocity = double 1 1;
      position = record { x = single 0 1; y = single 0 1 };
      start = double 10004 10;
      sound = 0;
      repeats = 0;
      node = None;
    }

-- a length of 100 is from 99.5 to 100.5
ends_at_1995 : end_at slider (double 995 10) ≡ 1995
unfolding computing end_at facts_of object_of
ends_at_1995 = refl

ends_at_2005 : end_at slider (double 1005 10) ≡ 2005
unfolding computing end_at facts_of object_of
ends_at_2005 = refl

not_refused : ends_refusal slider (record { low = double 995 10; high = double 1005 10 }) ≡ 0
unfolding computing ends_refusal rest_refusal nothing distance_fits end_at facts_of object_of
not_refused = refl

-- a unit lasts 600 ms: 55,924 of them end at 33,554,431 from a start of 31, and past it from one of 32
abbrev slow : Float → Slider
slow start =
    record {
      multiplier = double 1 1;
      beat = double 60000 1;
      velocity = double 1 1;
      position = record { x = single 0 1; y = single 0 1 };
      start = start;
      sound = 0;
      repeats = 0;
      node = None;
    }

at_the_limit : ends_refusal (slow (double 31 1)) (record { low = double 0 1; high = double 55924 1 }) ≡ 0
unfolding computing ends_refusal rest_refusal nothing distance_fits end_at facts_of object_of
at_the_limit = refl

refused_late : ends_refusal (slow (double 32 1)) (record { low = double 0 1; high = double 55924 1 }) ≡ 8
unfolding computing ends_refusal rest_refusal nothing distance_fits end_at facts_of object_of
refused_late = refl

-- the range comes first
refused_range_first : ends_refusal (slow (double 32 1)) (record { low = double 55925 1; high = double 55924 1 }) ≡ 20
unfolding computing ends_refusal rest_refusal nothing distance_fits end_at facts_of object_of
refused_range_first = refl
