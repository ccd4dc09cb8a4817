-- A line, part by part, and its note.
-- Assumes nothing.
use Rattle.std.specs.Prelude.{◌≡◌, true, false, List, ℕ, drop}
use Rattle.std.proofs.Math.Option.{none, some, bind}
use Rattle.text.specs.Text.{ascii}
use Rattle.chart.specs.declared.Note.{Note}
use Rattle.hit_object_lines.specs.Lines.{Line, circle, hold, y_part, circle_part, hold_part, end_part}
use Rattle.hit_object_lines.specs.Reading.{number, starts_with, after, head, hold_on, kind_on, line, note_of_line, note_on}

-- ---- x and the start

module _ (s : List ℕ) where
  pub head_x : number s ≡ none → none ≡ head s
  unfolding head bind
  head_x e = rw e

  module _ (x : ℕ) (t : List ℕ) (e : number s ≡ some (x, t)) where
    pub head_y : starts_with y_part t ≡ false → none ≡ head s
    unfolding head bind after
    head_y h = rw (e, h)

    module _ (h : starts_with y_part t ≡ true) where
      pub head_start : number (drop 5 t) ≡ none → none ≡ head s
      unfolding head bind after y_part ascii
      head_start f = rw (e, h, f)

      pub head_is : (start : ℕ) (u : List ℕ) → number (drop 5 t) ≡ some (start, u) → some ((x, start), u) ≡ head s
      unfolding head bind after y_part ascii
      head_is start u f = rw (e, h, f)

-- ---- a hold, from its type on

module _ (x start : ℕ) (s : List ℕ) where
  pub hold_type : starts_with hold_part s ≡ false → none ≡ hold_on x start s
  unfolding hold_on bind after
  hold_type h = rw h

  module _ (h : starts_with hold_part s ≡ true) where
    pub hold_end : number (drop 7 s) ≡ none → none ≡ hold_on x start s
    unfolding hold_on bind after hold_part ascii
    hold_end e = rw (h, e)

    module _ (end : ℕ) (t : List ℕ) (e : number (drop 7 s) ≡ some (end, t)) where
      pub hold_sample : starts_with end_part t ≡ false → none ≡ hold_on x start s
      unfolding hold_on bind after hold_part ascii
      hold_sample k = rw (h, e, k)

      pub hold_is : starts_with end_part t ≡ true → some (hold x start end, drop 10 t) ≡ hold_on x start s
      unfolding hold_on bind after hold_part end_part ascii
      hold_is k = rw (h, e, k)

-- ---- a line

module _ (s : List ℕ) where
  pub line_head : head s ≡ none → none ≡ line s
  unfolding line bind
  line_head e = rw e

  module _ (x start : ℕ) (t : List ℕ) (e : head s ≡ some ((x, start), t)) where
    pub line_circle : starts_with circle_part t ≡ true → some (circle x start, drop 14 t) ≡ line s
    unfolding line bind kind_on circle_part ascii
    line_circle h = rw (e, h)

    pub line_hold : starts_with circle_part t ≡ false → hold_on x start t ≡ line s
    unfolding line bind kind_on
    line_hold h = rw (e, h)

-- ---- its note

module _ (columns : ℕ) (s : List ℕ) where
  pub row_none : line s ≡ none → none ≡ note_on columns s
  unfolding note_on bind
  row_none e = rw e

  module _ (l : Line) (t : List ℕ) (e : line s ≡ some (l, t)) where
    pub row_short : note_of_line columns l ≡ none → none ≡ note_on columns s
    unfolding note_on bind
    row_short h = rw (e, h)

    pub row_is : (n : Note) → note_of_line columns l ≡ some n → some (n, t) ≡ note_on columns s
    unfolding note_on bind
    row_is n h = rw (e, h)
