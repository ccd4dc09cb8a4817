-- The header: fields at fixed places. Assumes nothing.
use Rattle.std.specs.Prelude.{ℕ, ◌≤◌, not, List, [], ◌∷◌, ltb, eqb}
use Rattle.rules.specs.Numbers as Numbers
use Rattle.model.specs.Limits.{most_entries, most_breaks, setting_range, multiplier_range}
use Rattle.bits.specs.Field.{bits}
use Rattle.model.specs.declared.Settings.{Settings}
use Rattle.record.specs.declared.header.Counts.{Counts}
use Rattle.record.specs.Layout as At
use Rattle.record.specs.Refusal.{Field, field, plain, out32, out64, fields_refusal, f32_at, f64_at}

-- hp, cs, od or ar
abbrev pub setting : List ℕ → ℕ → Field
setting s p = field p 32 (out32 s p setting_range) Numbers.setting

-- the slider multiplier
abbrev pub multiplier : List ℕ → Field
multiplier s = field At.multiplier 64 (out64 s At.multiplier multiplier_range) Numbers.setting

-- of breaks, timing, difficulty and effect points, and objects
abbrev pub count_fields : List Field
count_fields = plain At.break_count 8 ∷ plain At.timing_count 12 ∷ plain At.difficulty_count 12 ∷ plain At.effect_count 12 ∷ plain At.object_count 12 ∷ []

-- version, key choice, hp, cs, od, ar, multiplier, counts
unfoldable pub header_fields : List ℕ → List Field
header_fields s =
    field At.version 4 (not (eqb (bits s At.version 4) 1)) Numbers.version
    ∷ field At.keys 4 (ltb 9 (bits s At.keys 4)) Numbers.key_choice
    ∷ setting s At.hp
    ∷ setting s At.cs
    ∷ setting s At.od
    ∷ setting s At.ar
    ∷ multiplier s
    ∷ count_fields

unfoldable pub header_refusal : List ℕ → ℕ
unfolding fields_refusal
header_refusal s = fields_refusal s (header_fields s)

-- the key choice
unfoldable pub keys_of : List ℕ → ℕ
keys_of s = bits s At.keys 4

unfoldable pub settings_of : List ℕ → Settings
unfolding f32_at f64_at
settings_of s = record { hp = f32_at s At.hp; cs = f32_at s At.cs; od = f32_at s At.od; ar = f32_at s At.ar; multiplier = f64_at s At.multiplier }

unfoldable pub counts_of : List ℕ → Counts
counts_of s =
    record { breaks = bits s At.break_count 8; timing = bits s At.timing_count 12; difficulty = bits s At.difficulty_count 12; effect = bits s At.effect_count 12; objects = bits s At.object_count 12 }

-- what the widths of the counts say of them
pub record SmallCounts (n : Counts) : Type 0 where
  pub breaks_le : n.breaks ≤ most_breaks
  pub timing_le : n.timing ≤ most_entries
  pub difficulty_le : n.difficulty ≤ most_entries
  pub effect_le : n.effect ≤ most_entries
  pub objects_le : n.objects ≤ most_entries
