-- pattern_generator/end_time_object.rs: a spinner or a hold. Assumes nothing.
use Rattle.std.specs.Prelude.{ℕ, true, ◌&&◌, eqb, Float, if◌then◌else◌}
use Rattle.std.specs.Int.Count.{ones}
use Rattle.std.specs.Float.{binary64}
use Rattle.std.specs.Float.Ieee.{le, lt}
use Rattle.std.specs.Float.Ieee as Ieee
use Rattle.rules.specs.Rule.{give, ◌>>=◌}
use Rattle.rules.specs.Refusal.{ObjectRule}
use Rattle.mania.specs.declared.PrevValues.{PrevValues}
use Rattle.model.specs.declared.Object.{Object}
use Rattle.mania.specs.declared.Note.{Note}
use Rattle.mania.specs.declared.Next.TheVariants.{Draw}
use Rattle.mania.specs.Steps.{double}
use Rattle.model.specs.Sound.{finish, has_flag}
use Rattle.mania.specs.Made.{Made, circle}
use Rattle.mania.specs.Pattern.{empty, add}
use Rattle.mania.specs.PatternGenerator.{random_start, get_random_column, find_available_column}

-- `end_time - start_time`, where `end_time` is start + duration; two roundings, so it need not be the duration
unfoldable pub lasting : Object → Float → Float
lasting o duration = Ieee.sub binary64 (Ieee.add binary64 o.start duration) o.start

-- `get_random_column`: a drawn column, off the previous pattern unless that one fills the deck (`FORCE_NOT_STACK`)
unfoldable pub end_column : PrevValues → ℕ → ObjectRule ℕ
end_column v columns = do
  c ← get_random_column (random_start columns) columns
  find_available_column Draw columns c (random_start columns) columns (if eqb (ones v.mask) columns then 0 else v.mask)

-- the column: of 8 columns the special one for a short finish
unfoldable pub note_column : PrevValues → ℕ → Object → Float → ObjectRule ℕ
note_column v columns o lasts =
    if eqb columns 8 && has_flag o.sound finish && lt lasts (double 1000 1) then give 0
    else end_column v columns

-- `new_end_time_note`: a hold where it lasts 100 or more
unfoldable pub end_note : Object → Float → ℕ → Note
end_note o lasts c =
    if le (double 100 1) lasts then record { column = c; hold = true; start = o.start; duration = lasts }
    else circle c o.start

-- `generate`: one note; the previous pattern and the stair stay
unfoldable pub generate : PrevValues → ℕ → Object → Float → ObjectRule Made
generate v columns o duration = do
  c ← note_column v columns o (lasting o duration)
  p ← add columns (end_note o (lasting o duration) c) c empty
  give (record { notes = p.notes; mask = v.mask; last = v.last; stair = v.stair })
