-- How large counts and places are. Assumes nothing.
use Rattle.std.specs.Prelude.{ℕ, List}
use Rattle.std.proofs.Common.{arith}
use Rattle.bits.specs.Laws.Fields.{bits_lt}
use Rattle.record.specs.declared.header.Counts.{Counts}
use Rattle.record.specs.Header.{counts_of, SmallCounts}
use Rattle.record.specs.Record.{places_of, NearPlaces}

pub small_counts : (s : List ℕ) → SmallCounts (counts_of s)
unfolding counts_of
small_counts s =
    record {
      breaks_le = omega (arith, bits_lt s 200 8);
      timing_le = omega (arith, bits_lt s 208 12);
      difficulty_le = omega (arith, bits_lt s 220 12);
      effect_le = omega (arith, bits_lt s 232 12);
      objects_le = omega (arith, bits_lt s 244 12);
    }

pub near_places : (n : Counts) → SmallCounts n → NearPlaces (places_of n)
unfolding places_of
near_places n h = record { timing_le = omega arith; difficulty_le = omega arith; effect_le = omega arith; objects_le = omega arith }
