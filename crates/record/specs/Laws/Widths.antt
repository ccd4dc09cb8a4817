-- No entry is wider than a break, and a field of few bits fits a wider number. Assumes nothing.
use Rattle.std.specs.Prelude.{ℕ, ◌^◌, ◌≤◌, ◌<◌, List}
use Rattle.std.proofs.Common.{lt_of_lt_of_le, lit≤, pow_mono}
use Rattle.bits.specs.Field.{bits}
use Rattle.bits.specs.Laws.Fields.{bits_lt}
use Rattle.record.specs.declared.section.Section.{Section}
use Rattle.record.specs.declared.section.Section.TheVariants.{Breaks, TimingPoints, DifficultyPoints, EffectPoints}
use Rattle.record.specs.Layout as At
use Rattle.record.specs.Section.{width_of}

pub width_le : (k : Section) → width_of k ≤ At.entry
width_le Breaks = lit≤ tt
width_le TimingPoints = lit≤ tt
width_le DifficultyPoints = lit≤ tt
width_le EffectPoints = lit≤ tt

pub bits_fit : (s : List ℕ) (p n w : ℕ) → n ≤ w → bits s p n < 2 ^ w
bits_fit s p n w h = lt_of_lt_of_le (bits_lt s p n) (pow_mono h)
