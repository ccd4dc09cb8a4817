-- The header's row of conditions, as the code goes along it. Assumes nothing.
use Rattle.std.specs.Prelude.{◌≡◌, ℕ, List, not, ltb, eqb}
use Rattle.rules.specs.Numbers as Numbers
use Rattle.bits.specs.Field.{bits, short}
use Rattle.record.specs.Layout as At
use Rattle.record.specs.Refusal.{◌gives◌, ◌then◌, field_refusal, fields_refusal}
use Rattle.record.specs.Header.{setting, multiplier, header_fields, header_refusal}
use Rattle.record.specs.Laws.Row.{then_zero, then_assoc, counts_once}

-- each field's end, then its own condition; of the counts the end of the last
pub header_row : (s : List ℕ)
    → header_refusal s
    ≡ (short s At.keys gives Numbers.field_not_whole
    then not (eqb (bits s At.version 4) 1) gives Numbers.version
    then short s At.hp gives Numbers.field_not_whole
    then ltb 9 (bits s At.keys 4) gives Numbers.key_choice
    then field_refusal s (setting s At.hp)
    then field_refusal s (setting s At.cs)
    then field_refusal s (setting s At.od)
    then field_refusal s (setting s At.ar)
    then field_refusal s (multiplier s)
    then short s At.breaks gives Numbers.field_not_whole)
unfolding header_refusal header_fields fields_refusal
header_row s = simp (then_zero, then_assoc, counts_once)
