-- Columns of words: they have four bits, and of circles, spinners and holds the notes differ in nothing else. Assumes nothing.
use Rattle.std.specs.Prelude.{if◌then◌else◌, Some}
use mathlib.Core.Path.{◌≡◌, refl, sym, subst}
use Prim.Native.Nat.{ℕ, ◌%◌, ◌^◌, ◌<◌}
use native.Mathlib.Nat.{mod-lt}
use mathlib.Core.Bool.{Bool, true, false}
use lib.Dec.{eqb}
use lib.Ieee.{Float, le}
use lib.Pow.{pow_pos}
use Rattle.chart.specs.declared.Note as Patterns
use Rattle.model.specs.declared.Object.{Object}
use Rattle.mania.specs.declared.Note.{Note}
use Rattle.mania.specs.declared.SliderNote.{SliderNote}
use Rattle.mania.specs.Chart.{pattern_of}
use Rattle.mania.specs.Steps.{double}
use Rattle.mania.specs.Made.{circle}
use Rattle.mania.specs.EndTimeObject.{lasting, end_note}
use Rattle.mania.specs.PathObject.{note_of}
use Rattle.circle_notes.specs.Answers.{circle_at}
use Rattle.end_time_object.specs.Answers.{end_note_at}
use Rattle.slider_notes.specs.Words.{of_word, note_of_word}
use Rattle.notes.specs.Columns.{in_column}

four_bits : (n : ℕ) → n % 2 ^ 4 < 16
four_bits n = mod-lt n (pow_pos 4)

-- either of two notes at a column
either : (b : Bool) (m n : Note) (c : ℕ) → m.column ≡ c → n.column ≡ c → (if b then m else n).column ≡ c
either true m n c h k = h
either false m n c h k = k

slider_column : (b : SliderNote) → (note_of b).column ≡ b.column
unfolding note_of circle
slider_column b = either (eqb b.start b.end) _ _ b.column refl refl

pub slider_narrow : (i w : ℕ) → (pattern_of i (note_of_word w)).column < 16
unfolding pattern_of note_of_word of_word
slider_narrow i w = subst (λ (c : ℕ). c < 16) (sym (slider_column (of_word w))) (four_bits _)

-- a pattern in a word's column
abbrev pub row_in : Patterns.Note → ℕ → Patterns.Note
row_in p w = record { column = w % 2 ^ 4; hold = p.hold; origin = p.origin; start = p.start; duration = p.duration }

pub row_is : (i : ℕ) (n : Note) → row_in (pattern_of i n) ≡ (λ (w : ℕ). pattern_of i (in_column n w))
unfolding pattern_of in_column
row_is i n = refl

pub circles_in : (start : Float) → in_column (circle 0 start) ≡ circle_at start
unfolding in_column circle circle_at
circles_in start = refl

ends_by : (b : Bool) (start lasts : Float)
    → in_column (if b then record { column = 0; hold = true; start = start; duration = lasts } else circle 0 start)
    ≡ (λ (w : ℕ). if b then record { column = w % 2 ^ 4; hold = true; start = start; duration = lasts } else circle (w % 2 ^ 4) start)
unfolding in_column circle
ends_by true start lasts = refl
ends_by false start lasts = refl

pub ends_in : (o : Object) (duration : Float) → in_column (end_note_at o duration 0) ≡ end_note_at o duration
unfolding end_note_at end_note
ends_in o duration = ends_by (le (double 100 1) (lasting o duration)) o.start (lasting o duration)
