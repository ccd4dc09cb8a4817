-- `record::section::Section::refusal` meets its contract. The loop's invariant: the whole list's refusal is that of the entries left.
-- Assumes nothing.
use Rattle.std.proofs.Common.{◌≤◌}
use native.Mathlib.Nat.{sub-zero}
use native.Mathlib.Omega.{arith}
use lib.Ieee.{neg, round, size, span, climb, units, odd, of_bits, of_fields}
use Rattle.record.specs.Layout as At
use Rattle.record.specs.Section.{section_refusal, no_time}
use Rattle.record.specs.Laws.Widths.{width_le}
use Rattle.record.specs.Laws.Entries.{list_next}
use Rattle.record.proofs.section.Section.refusal.Goals as goal

pub loop-init : goal.loop-init
unfolding section_refusal no_time neg round size span climb units odd of_bits of_fields
loop-init c = record { place = omega arith; rest = rw sub-zero }

pub loop-preserved : goal.loop-preserved
loop-preserved c =
    let narrow : c.width-width.result ≤ At.entry = rw c.width-width.ensures (width_le c.args.self) in
    record {
      place = omega arith;
      rest = rw (c.loop.invariant.rest, c.f64_at-before.ensures, c.width-width.ensures) (list_next _ _ _ _ _ _ _ (omega arith) c.in_ok-entry_refusal.ensures);
    }
