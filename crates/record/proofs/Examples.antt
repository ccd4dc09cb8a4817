-- The examples of the refusal table for 1 to 7, and what is easily taken for another number, worked out by antt. Assumes nothing.
use mathlib.Core.Path.{◌≡◌, refl}
use mathlib.Core.List.{[], ◌∷◌}
use lib.Ieee.{round, size, span, climb, units, odd, of_bits, of_fields, nan_bits, neg, lt, le, eq}
use lib.Count.{count_trailing_zeros}
use Rattle.bits.specs.Field.{bit, bits, short}
use Rattle.floats.specs.Range.{in_range, float}
use Rattle.record.specs.Refusal.{◌gives◌, ◌then◌, fields_refusal, f64_at, entries_refusal, entries_end}
use Rattle.record.specs.Header.{header_fields, header_refusal, counts_of}
use Rattle.record.specs.Section.{entry_refusal, no_time, section_refusal}
use Rattle.record.specs.Object.{node_bit, slider_end, kind_end, start_at, object_end, object_refusal, zero_start, objects_refusal, objects_end}
use Rattle.record.specs.Record.{places_of, lists_refusal, record_end, fill_refusal, record_refusal}

-- 31 bytes
thirty_one_bytes : record_refusal (20 ∷ 0 ∷ 0 ∷ 0 ∷ 0 ∷ 0 ∷ 0 ∷ 0 ∷ 0 ∷ 0 ∷ 0 ∷ 0 ∷ 0 ∷ 0 ∷ 0 ∷ 0 ∷ 0 ∷ 63 ∷ 240 ∷ 0 ∷ 0 ∷ 0 ∷ 0 ∷ 0 ∷ 0 ∷ 0 ∷ 0 ∷ 0 ∷ 0 ∷ 0 ∷ 0 ∷ []) ≡ 1
unfolding record_refusal lists_refusal header_refusal header_fields section_refusal entry_refusal no_time objects_refusal object_refusal fields_refusal node_bit slider_end start_at kind_end object_end objects_end zero_start entries_refusal entries_end fill_refusal record_end places_of counts_of f64_at float in_range short bits bit ◌then◌ ◌gives◌ round size span climb units odd of_bits of_fields nan_bits neg lt le eq count_trailing_zeros
thirty_one_bytes = refl

-- first nibble 2
version_two : record_refusal (36 ∷ []) ≡ 2
unfolding record_refusal lists_refusal header_refusal header_fields section_refusal entry_refusal no_time objects_refusal object_refusal fields_refusal node_bit slider_end start_at kind_end object_end objects_end zero_start entries_refusal entries_end fill_refusal record_end places_of counts_of f64_at float in_range short bits bit ◌then◌ ◌gives◌ round size span climb units odd of_bits of_fields nan_bits neg lt le eq count_trailing_zeros
version_two = refl

-- key choice 10
key_choice_ten : record_refusal (26 ∷ []) ≡ 3
unfolding record_refusal lists_refusal header_refusal header_fields section_refusal entry_refusal no_time objects_refusal object_refusal fields_refusal node_bit slider_end start_at kind_end object_end objects_end zero_start entries_refusal entries_end fill_refusal record_end places_of counts_of f64_at float in_range short bits bit ◌then◌ ◌gives◌ round size span climb units odd of_bits of_fields nan_bits neg lt le eq count_trailing_zeros
key_choice_ten = refl

-- hp 10.5
hp_above_ten : record_refusal (20 ∷ 65 ∷ 40 ∷ 0 ∷ 0 ∷ 0 ∷ 0 ∷ 0 ∷ 0 ∷ 0 ∷ 0 ∷ 0 ∷ 0 ∷ 0 ∷ 0 ∷ 0 ∷ 0 ∷ 63 ∷ 240 ∷ 0 ∷ 0 ∷ 0 ∷ 0 ∷ 0 ∷ 0 ∷ 0 ∷ 0 ∷ 0 ∷ 0 ∷ 0 ∷ 0 ∷ 0 ∷ []) ≡ 4
unfolding record_refusal lists_refusal header_refusal header_fields section_refusal entry_refusal no_time objects_refusal object_refusal fields_refusal node_bit slider_end start_at kind_end object_end objects_end zero_start entries_refusal entries_end fill_refusal record_end places_of counts_of f64_at float in_range short bits bit ◌then◌ ◌gives◌ round size span climb units odd of_bits of_fields nan_bits neg lt le eq count_trailing_zeros
hp_above_ten = refl

-- two timing points at 0
two_at_zero : record_refusal (20 ∷ 0 ∷ 0 ∷ 0 ∷ 0 ∷ 0 ∷ 0 ∷ 0 ∷ 0 ∷ 0 ∷ 0 ∷ 0 ∷ 0 ∷ 0 ∷ 0 ∷ 0 ∷ 0 ∷ 63 ∷ 240 ∷ 0 ∷ 0 ∷ 0 ∷ 0 ∷ 0 ∷ 0 ∷ 0 ∷ 0 ∷ 32 ∷ 0 ∷ 0 ∷ 0 ∷ 0 ∷ 0 ∷ 0 ∷ 0 ∷ 0 ∷ 0 ∷ 0 ∷ 0 ∷ 0 ∷ 64 ∷ 127 ∷ 64 ∷ 0 ∷ 0 ∷ 0 ∷ 0 ∷ 0 ∷ 0 ∷ 0 ∷ 0 ∷ 0 ∷ 0 ∷ 0 ∷ 0 ∷ 0 ∷ 64 ∷ 127 ∷ 64 ∷ 0 ∷ 0 ∷ 0 ∷ 0 ∷ 0 ∷ []) ≡ 5
unfolding record_refusal lists_refusal header_refusal header_fields section_refusal entry_refusal no_time objects_refusal object_refusal fields_refusal node_bit slider_end start_at kind_end object_end objects_end zero_start entries_refusal entries_end fill_refusal record_end places_of counts_of f64_at float in_range short bits bit ◌then◌ ◌gives◌ round size span climb units odd of_bits of_fields nan_bits neg lt le eq count_trailing_zeros
two_at_zero = refl

-- starts 5, then 4
starts_fall : record_refusal (20 ∷ 0 ∷ 0 ∷ 0 ∷ 0 ∷ 0 ∷ 0 ∷ 0 ∷ 0 ∷ 0 ∷ 0 ∷ 0 ∷ 0 ∷ 0 ∷ 0 ∷ 0 ∷ 0 ∷ 63 ∷ 240 ∷ 0 ∷ 0 ∷ 0 ∷ 0 ∷ 0 ∷ 0 ∷ 0 ∷ 0 ∷ 0 ∷ 0 ∷ 0 ∷ 0 ∷ 2 ∷ 0 ∷ 0 ∷ 0 ∷ 0 ∷ 0 ∷ 0 ∷ 0 ∷ 0 ∷ 1 ∷ 0 ∷ 80 ∷ 0 ∷ 0 ∷ 0 ∷ 0 ∷ 0 ∷ 0 ∷ 0 ∷ 0 ∷ 0 ∷ 0 ∷ 0 ∷ 0 ∷ 0 ∷ 0 ∷ 4 ∷ 1 ∷ 0 ∷ 0 ∷ 0 ∷ 0 ∷ 0 ∷ 0 ∷ 0 ∷ []) ≡ 6
unfolding record_refusal lists_refusal header_refusal header_fields section_refusal entry_refusal no_time objects_refusal object_refusal fields_refusal node_bit slider_end start_at kind_end object_end objects_end zero_start entries_refusal entries_end fill_refusal record_end places_of counts_of f64_at float in_range short bits bit ◌then◌ ◌gives◌ round size span climb units odd of_bits of_fields nan_bits neg lt le eq count_trailing_zeros
starts_fall = refl

-- one byte more
one_byte_more : record_refusal (20 ∷ 0 ∷ 0 ∷ 0 ∷ 0 ∷ 0 ∷ 0 ∷ 0 ∷ 0 ∷ 0 ∷ 0 ∷ 0 ∷ 0 ∷ 0 ∷ 0 ∷ 0 ∷ 0 ∷ 63 ∷ 240 ∷ 0 ∷ 0 ∷ 0 ∷ 0 ∷ 0 ∷ 0 ∷ 0 ∷ 0 ∷ 0 ∷ 0 ∷ 0 ∷ 0 ∷ 0 ∷ 0 ∷ []) ≡ 7
unfolding record_refusal lists_refusal header_refusal header_fields section_refusal entry_refusal no_time objects_refusal object_refusal fields_refusal node_bit slider_end start_at kind_end object_end objects_end zero_start entries_refusal entries_end fill_refusal record_end places_of counts_of f64_at float in_range short bits bit ◌then◌ ◌gives◌ round size span climb units odd of_bits of_fields nan_bits neg lt le eq count_trailing_zeros
one_byte_more = refl

-- no entries: accepted
no_entries : record_refusal (20 ∷ 0 ∷ 0 ∷ 0 ∷ 0 ∷ 0 ∷ 0 ∷ 0 ∷ 0 ∷ 0 ∷ 0 ∷ 0 ∷ 0 ∷ 0 ∷ 0 ∷ 0 ∷ 0 ∷ 63 ∷ 240 ∷ 0 ∷ 0 ∷ 0 ∷ 0 ∷ 0 ∷ 0 ∷ 0 ∷ 0 ∷ 0 ∷ 0 ∷ 0 ∷ 0 ∷ 0 ∷ []) ≡ 0
unfolding record_refusal lists_refusal header_refusal header_fields section_refusal entry_refusal no_time objects_refusal object_refusal fields_refusal node_bit slider_end start_at kind_end object_end objects_end zero_start entries_refusal entries_end fill_refusal record_end places_of counts_of f64_at float in_range short bits bit ◌then◌ ◌gives◌ round size span climb units odd of_bits of_fields nan_bits neg lt le eq count_trailing_zeros
no_entries = refl

-- a break's start is a NaN and its end is cut: 5, not 1
nan_before_cut : record_refusal (20 ∷ 0 ∷ 0 ∷ 0 ∷ 0 ∷ 0 ∷ 0 ∷ 0 ∷ 0 ∷ 0 ∷ 0 ∷ 0 ∷ 0 ∷ 0 ∷ 0 ∷ 0 ∷ 0 ∷ 63 ∷ 240 ∷ 0 ∷ 0 ∷ 0 ∷ 0 ∷ 0 ∷ 0 ∷ 1 ∷ 0 ∷ 0 ∷ 0 ∷ 0 ∷ 0 ∷ 0 ∷ 127 ∷ 248 ∷ 0 ∷ 0 ∷ 0 ∷ 0 ∷ 0 ∷ 0 ∷ []) ≡ 5
unfolding record_refusal lists_refusal header_refusal header_fields section_refusal entry_refusal no_time objects_refusal object_refusal fields_refusal node_bit slider_end start_at kind_end object_end objects_end zero_start entries_refusal entries_end fill_refusal record_end places_of counts_of f64_at float in_range short bits bit ◌then◌ ◌gives◌ round size span climb units odd of_bits of_fields nan_bits neg lt le eq count_trailing_zeros
nan_before_cut = refl

-- a break's start is in order and its end is cut
end_cut : record_refusal (20 ∷ 0 ∷ 0 ∷ 0 ∷ 0 ∷ 0 ∷ 0 ∷ 0 ∷ 0 ∷ 0 ∷ 0 ∷ 0 ∷ 0 ∷ 0 ∷ 0 ∷ 0 ∷ 0 ∷ 63 ∷ 240 ∷ 0 ∷ 0 ∷ 0 ∷ 0 ∷ 0 ∷ 0 ∷ 1 ∷ 0 ∷ 0 ∷ 0 ∷ 0 ∷ 0 ∷ 0 ∷ 0 ∷ 0 ∷ 0 ∷ 0 ∷ 0 ∷ 0 ∷ 0 ∷ 0 ∷ []) ≡ 1
unfolding record_refusal lists_refusal header_refusal header_fields section_refusal entry_refusal no_time objects_refusal object_refusal fields_refusal node_bit slider_end start_at kind_end object_end objects_end zero_start entries_refusal entries_end fill_refusal record_end places_of counts_of f64_at float in_range short bits bit ◌then◌ ◌gives◌ round size span climb units odd of_bits of_fields nan_bits neg lt le eq count_trailing_zeros
end_cut = refl

-- a break starts at negative zero
negative_zero_law : record_refusal (20 ∷ 0 ∷ 0 ∷ 0 ∷ 0 ∷ 0 ∷ 0 ∷ 0 ∷ 0 ∷ 0 ∷ 0 ∷ 0 ∷ 0 ∷ 0 ∷ 0 ∷ 0 ∷ 0 ∷ 63 ∷ 240 ∷ 0 ∷ 0 ∷ 0 ∷ 0 ∷ 0 ∷ 0 ∷ 1 ∷ 0 ∷ 0 ∷ 0 ∷ 0 ∷ 0 ∷ 0 ∷ 128 ∷ 0 ∷ 0 ∷ 0 ∷ 0 ∷ 0 ∷ 0 ∷ 0 ∷ 63 ∷ 240 ∷ 0 ∷ 0 ∷ 0 ∷ 0 ∷ 0 ∷ 0 ∷ []) ≡ 5
unfolding record_refusal lists_refusal header_refusal header_fields section_refusal entry_refusal no_time objects_refusal object_refusal fields_refusal node_bit slider_end start_at kind_end object_end objects_end zero_start entries_refusal entries_end fill_refusal record_end places_of counts_of f64_at float in_range short bits bit ◌then◌ ◌gives◌ round size span climb units odd of_bits of_fields nan_bits neg lt le eq count_trailing_zeros
negative_zero_law = refl

-- starts 5, then 4, of a spinner whose duration is cut: 6, not 1
order_before_duration : record_refusal (20 ∷ 0 ∷ 0 ∷ 0 ∷ 0 ∷ 0 ∷ 0 ∷ 0 ∷ 0 ∷ 0 ∷ 0 ∷ 0 ∷ 0 ∷ 0 ∷ 0 ∷ 0 ∷ 0 ∷ 63 ∷ 240 ∷ 0 ∷ 0 ∷ 0 ∷ 0 ∷ 0 ∷ 0 ∷ 0 ∷ 0 ∷ 0 ∷ 0 ∷ 0 ∷ 0 ∷ 2 ∷ 0 ∷ 0 ∷ 0 ∷ 0 ∷ 0 ∷ 0 ∷ 0 ∷ 0 ∷ 1 ∷ 0 ∷ 80 ∷ 0 ∷ 0 ∷ 0 ∷ 0 ∷ 0 ∷ 2 ∷ 0 ∷ 0 ∷ 0 ∷ 0 ∷ 0 ∷ 0 ∷ 0 ∷ 0 ∷ 4 ∷ 1 ∷ 0 ∷ 0 ∷ 0 ∷ 0 ∷ 0 ∷ 0 ∷ 0 ∷ []) ≡ 6
unfolding record_refusal lists_refusal header_refusal header_fields section_refusal entry_refusal no_time objects_refusal object_refusal fields_refusal node_bit slider_end start_at kind_end object_end objects_end zero_start entries_refusal entries_end fill_refusal record_end places_of counts_of f64_at float in_range short bits bit ◌then◌ ◌gives◌ round size span climb units odd of_bits of_fields nan_bits neg lt le eq count_trailing_zeros
order_before_duration = refl

-- a spinner whose duration is cut
duration_cut : record_refusal (20 ∷ 0 ∷ 0 ∷ 0 ∷ 0 ∷ 0 ∷ 0 ∷ 0 ∷ 0 ∷ 0 ∷ 0 ∷ 0 ∷ 0 ∷ 0 ∷ 0 ∷ 0 ∷ 0 ∷ 63 ∷ 240 ∷ 0 ∷ 0 ∷ 0 ∷ 0 ∷ 0 ∷ 0 ∷ 0 ∷ 0 ∷ 0 ∷ 0 ∷ 0 ∷ 0 ∷ 1 ∷ 128 ∷ 0 ∷ 0 ∷ 0 ∷ 0 ∷ 0 ∷ 0 ∷ 0 ∷ 1 ∷ 0 ∷ 64 ∷ 0 ∷ 0 ∷ 0 ∷ 0 ∷ 0 ∷ 0 ∷ []) ≡ 1
unfolding record_refusal lists_refusal header_refusal header_fields section_refusal entry_refusal no_time objects_refusal object_refusal fields_refusal node_bit slider_end start_at kind_end object_end objects_end zero_start entries_refusal entries_end fill_refusal record_end places_of counts_of f64_at float in_range short bits bit ◌then◌ ◌gives◌ round size span climb units odd of_bits of_fields nan_bits neg lt le eq count_trailing_zeros
duration_cut = refl

-- the last filling bit is 1
filling_bit : record_refusal (20 ∷ 0 ∷ 0 ∷ 0 ∷ 0 ∷ 0 ∷ 0 ∷ 0 ∷ 0 ∷ 0 ∷ 0 ∷ 0 ∷ 0 ∷ 0 ∷ 0 ∷ 0 ∷ 0 ∷ 63 ∷ 240 ∷ 0 ∷ 0 ∷ 0 ∷ 0 ∷ 0 ∷ 0 ∷ 0 ∷ 0 ∷ 0 ∷ 0 ∷ 0 ∷ 0 ∷ 1 ∷ 0 ∷ 0 ∷ 0 ∷ 0 ∷ 0 ∷ 0 ∷ 0 ∷ 0 ∷ 1 ∷ 0 ∷ 64 ∷ 0 ∷ 0 ∷ 0 ∷ 0 ∷ 0 ∷ 1 ∷ []) ≡ 7
unfolding record_refusal lists_refusal header_refusal header_fields section_refusal entry_refusal no_time objects_refusal object_refusal fields_refusal node_bit slider_end start_at kind_end object_end objects_end zero_start entries_refusal entries_end fill_refusal record_end places_of counts_of f64_at float in_range short bits bit ◌then◌ ◌gives◌ round size span climb units odd of_bits of_fields nan_bits neg lt le eq count_trailing_zeros
filling_bit = refl

-- a slider of 300 repeats, of which nothing more is there: 6, not 1
repeats_300 : record_refusal (20 ∷ 0 ∷ 0 ∷ 0 ∷ 0 ∷ 0 ∷ 0 ∷ 0 ∷ 0 ∷ 0 ∷ 0 ∷ 0 ∷ 0 ∷ 0 ∷ 0 ∷ 0 ∷ 0 ∷ 63 ∷ 240 ∷ 0 ∷ 0 ∷ 0 ∷ 0 ∷ 0 ∷ 0 ∷ 0 ∷ 0 ∷ 0 ∷ 0 ∷ 0 ∷ 0 ∷ 1 ∷ 64 ∷ 0 ∷ 0 ∷ 0 ∷ 0 ∷ 0 ∷ 0 ∷ 0 ∷ 0 ∷ 0 ∷ 0 ∷ 0 ∷ 0 ∷ 0 ∷ 0 ∷ 0 ∷ 1 ∷ 44 ∷ []) ≡ 6
unfolding record_refusal lists_refusal header_refusal header_fields section_refusal entry_refusal no_time objects_refusal object_refusal fields_refusal node_bit slider_end start_at kind_end object_end objects_end zero_start entries_refusal entries_end fill_refusal record_end places_of counts_of f64_at float in_range short bits bit ◌then◌ ◌gives◌ round size span climb units odd of_bits of_fields nan_bits neg lt le eq count_trailing_zeros
repeats_300 = refl

-- cut inside its repeats
repeats_cut : record_refusal (20 ∷ 0 ∷ 0 ∷ 0 ∷ 0 ∷ 0 ∷ 0 ∷ 0 ∷ 0 ∷ 0 ∷ 0 ∷ 0 ∷ 0 ∷ 0 ∷ 0 ∷ 0 ∷ 0 ∷ 63 ∷ 240 ∷ 0 ∷ 0 ∷ 0 ∷ 0 ∷ 0 ∷ 0 ∷ 0 ∷ 0 ∷ 0 ∷ 0 ∷ 0 ∷ 0 ∷ 1 ∷ 64 ∷ 0 ∷ 0 ∷ 0 ∷ 0 ∷ 0 ∷ 0 ∷ 0 ∷ 0 ∷ 0 ∷ 0 ∷ 0 ∷ 0 ∷ 0 ∷ 0 ∷ 0 ∷ 1 ∷ []) ≡ 1
unfolding record_refusal lists_refusal header_refusal header_fields section_refusal entry_refusal no_time objects_refusal object_refusal fields_refusal node_bit slider_end start_at kind_end object_end objects_end zero_start entries_refusal entries_end fill_refusal record_end places_of counts_of f64_at float in_range short bits bit ◌then◌ ◌gives◌ round size span climb units odd of_bits of_fields nan_bits neg lt le eq count_trailing_zeros
repeats_cut = refl

-- 299 repeats, of which nothing more is there
repeats_299 : record_refusal (20 ∷ 0 ∷ 0 ∷ 0 ∷ 0 ∷ 0 ∷ 0 ∷ 0 ∷ 0 ∷ 0 ∷ 0 ∷ 0 ∷ 0 ∷ 0 ∷ 0 ∷ 0 ∷ 0 ∷ 63 ∷ 240 ∷ 0 ∷ 0 ∷ 0 ∷ 0 ∷ 0 ∷ 0 ∷ 0 ∷ 0 ∷ 0 ∷ 0 ∷ 0 ∷ 0 ∷ 1 ∷ 64 ∷ 0 ∷ 0 ∷ 0 ∷ 0 ∷ 0 ∷ 0 ∷ 0 ∷ 0 ∷ 0 ∷ 0 ∷ 0 ∷ 0 ∷ 0 ∷ 0 ∷ 0 ∷ 1 ∷ 43 ∷ []) ≡ 1
unfolding record_refusal lists_refusal header_refusal header_fields section_refusal entry_refusal no_time objects_refusal object_refusal fields_refusal node_bit slider_end start_at kind_end object_end objects_end zero_start entries_refusal entries_end fill_refusal record_end places_of counts_of f64_at float in_range short bits bit ◌then◌ ◌gives◌ round size span climb units odd of_bits of_fields nan_bits neg lt le eq count_trailing_zeros
repeats_299 = refl
