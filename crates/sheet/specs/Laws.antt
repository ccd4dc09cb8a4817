-- Laws of the sheet's text.
-- Assumes nothing.
use Rattle.std.specs.Prelude.{◌≡◌, Bool, true, false, List, [], ◌∷◌, ◌++◌, eqb, ltb, length, get_or, replicate}
use Rattle.std.proofs.Math.Path.{refl}
use Rattle.std.proofs.Common.{sym, ◌∙◌, div-lt_iff_lt-mul, add-one, arith, pow_pos, eq-eqb, ne_eqb, le-leb, eqb-true, ltb-true, ltb-false}
use Rattle.std.proofs.Math.Option.{some}
use Prim.Native.Nat.{ℕ, zero, suc, ◌+◌, ◌-◌, ◌*◌, ◌/◌, ◌%◌, ◌^◌, ◌≤◌, ◌<◌, min}
use Rattle.std.proofs.Math.ListN.{length-append, drop_of_length-le}
use Rattle.std.proofs.lemmas.List.{length-replicate}
use Rattle.std.proofs.Math.Seq.{drop-cons}
use Rattle.std.specs.Float.{binary64}
use Rattle.std.proofs.lemmas.Bool.{lt-leb}
use Rattle.rules.specs.Numbers as Numbers
use Rattle.floats.specs.Ticks.{ticks}
use Rattle.floats.specs.Whole.{rounded, count}
use Rattle.floats.specs.declared.Way.TheVariants.{Floor}
use Rattle.floats.specs.Laws.Patterns.{size_of, small_value}
use Rattle.floats.specs.Laws.Wholes.{count_value}
use Rattle.model.specs.Limits.{latest_end}
use Rattle.chart.specs.declared.Note.{Note}
use Rattle.chart.specs.declared.Version.{Version}
use Rattle.chart.specs.Layout.{most_in_chart}
use Rattle.chart.specs.Time.{time}
use Rattle.chart.specs.Tests.{never}
use Rattle.chart.specs.Laws.Times.{ticks_size}
use Rattle.chart.specs.Bytes.{Bytes, splice}
use Rattle.chart.specs.Chart.{Score, accepted, reading_of, decode, notes_read, notes_in, blank}
use Rattle.chart.specs.Laws.Reader.{accepted_score, notes_ok, notes_times, columns_few, notes_few, note_bounds}
use Rattle.text.specs.Text.{ascii, space, decimal, right, left}
use Rattle.text.specs.Laws.{decimal_fits, length_right, length_left}
use Rattle.sheet.specs.Layout.{page_lines, page_notes, line_width, line_size, number_width, word_width, start_width}
use Rattle.sheet.specs.Sheet.{milliseconds, no_note, mark, deck, note_text, head_text, first_text, place_at, text_at, line_at, lines, pages, sheet, refused, written, given, putting}
use Rattle.sheet.specs.Fits.{StartFits, NoteFits, Fits}

-- ---- starts

-- the whole milliseconds of so many ticks, with c for their number in one
below : (a c : ℕ) → 0 < c → a ≤ latest_end * c → a / c < latest_end + 1
below a c C h = (div-lt_iff_lt-mul {k = c} {x = a} {y = latest_end + 1} C).1 (omega arith)

pub start_few : (t : ℕ) → StartFits t → milliseconds t < latest_end + 1
unfolding milliseconds
start_few t f = below (ticks (time t)) (2 ^ 1074) (pow_pos 1074) f.in_time

-- the floor of the f64 is that number
pub start_floor : (t : ℕ) → StartFits t → count Floor (time t) ≡ milliseconds t
unfolding milliseconds rounded
start_floor t f =
    count_value Floor (time t) (size_of binary64 t) (2 ^ 1074) (pow_pos 1074) (small_value binary64 t f.finite)
    ∙ rw (← (ticks_size t f.finite)) (small (ticks (time t) / 2 ^ 1074) (below (ticks (time t)) (2 ^ 1074) (pow_pos 1074) f.in_time))
  where
    small : (n : ℕ) → n < 33554432 → min n 2147483647 ≡ n
    small n h = omega arith

pub start_digits : (t : ℕ) → StartFits t → length (decimal (milliseconds t)) ≤ start_width
start_digits t f = decimal_fits (milliseconds t) 8 (omega (arith, start_few t f))

-- ---- lengths

pub length_deck : (columns column m : ℕ) → column < columns → length (deck columns column m) ≡ columns
unfolding deck
length_deck columns column m h =
    length-append (replicate column no_note) (m ∷ replicate (columns - (column + 1)) no_note)
    ∙ omega (arith, length-replicate column no_note, length-replicate (columns - (column + 1)) no_note)

pub length_note : (columns : ℕ) (n : Note) → NoteFits columns n → length (note_text columns n) ≡ start_width + 1 + columns
unfolding note_text
length_note columns n f =
    length-append (right start_width (milliseconds n.start)) (space ∷ deck columns n.column (mark n.hold))
    ∙ omega (arith, length_right start_width (milliseconds n.start) (start_digits n.start f.start), length_deck columns n.column (mark n.hold) f.on_deck)

pub length_head : (page : ℕ) → page < 10 ^ 6 → length (head_text page) ≡ line_width
unfolding head_text ascii
length_head page h =
    length-append (left word_width (ascii "PAGE")) (right number_width page)
    ∙ omega (arith, length_left word_width (ascii "PAGE") (omega arith), length_right number_width page (decimal_fits page 5 h))

-- ---- pages

pub pages_some : (count : ℕ) → 0 < count → pages count ≡ (count + (page_notes - 1)) / page_notes
pages_some count h = omega arith

pub page_fits : (count i : ℕ) → count ≤ most_in_chart → i < page_lines * pages count → i / page_lines + 1 < 10 ^ 6
page_fits count i h l = omega arith

-- every note has its line
pub page_of : (count j : ℕ) → j < count → j / page_notes < pages count
page_of count j h = omega arith

-- ---- the text of each line

module _ (columns : ℕ) (ns : List Note) (i : ℕ) where
  pub text_head : i % page_lines ≡ 0 → text_at columns ns i ≡ head_text (i / page_lines + 1)
  unfolding text_at
  text_head h = rw (eq-eqb (i % page_lines) 0 h)

  pub text_note : (i % page_lines ≡ 0 → ⊥) → place_at i < length ns → text_at columns ns i ≡ note_text columns (get_or ns (place_at i) blank)
  unfolding text_at first_text
  text_note h l = rw (ne_eqb (i % page_lines) 0 h, drop-cons ns (place_at i) blank l)

  pub text_blank : (i % page_lines ≡ 0 → ⊥) → length ns ≤ place_at i → text_at columns ns i ≡ []
  unfolding text_at first_text
  text_blank h l = rw (ne_eqb (i % page_lines) 0 h, drop_of_length-le ns l)

-- ---- lengths of lines

module _ (columns : ℕ) (ns : List Note) (f : Fits columns ns) where
  pub text_fits : (i : ℕ) → i < page_lines * pages (length ns) → length (text_at columns ns i) ≤ line_width
  text_fits i h = by_head (eqb (i % page_lines) 0) refl
    where
      by_note : (t : Bool) → ltb (place_at i) (length ns) ≡ t → (i % page_lines ≡ 0 → ⊥) → length (text_at columns ns i) ≤ line_width
      by_note true e no_head =
          let l : place_at i < length ns = ltb-true (place_at i) (length ns) e in
          let n = f.each (place_at i) l in
          rw (text_note columns ns i no_head l) (omega (arith, length_note columns (get_or ns (place_at i) blank) n, n.few_columns))
      by_note false e no_head = rw (text_blank columns ns i no_head (ltb-false (place_at i) (length ns) e)) (omega arith)

      by_head : (t : Bool) → eqb (i % page_lines) 0 ≡ t → length (text_at columns ns i) ≤ line_width
      by_head true e =
          rw (text_head columns ns i (eqb-true (i % page_lines) 0 e)) (omega (arith, length_head (i / page_lines + 1) (page_fits (length ns) i f.few_notes h)))
      by_head false e = by_note (ltb (place_at i) (length ns)) refl (λ z. never (eq-eqb (i % page_lines) 0 z) e)

  pub length_line : (i : ℕ) → i < page_lines * pages (length ns) → length (line_at columns ns i) ≡ line_size
  unfolding line_at ascii
  length_line i h =
      length-append (left line_width (text_at columns ns i)) (ascii "\n") ∙ omega (arith, length_left line_width (text_at columns ns i) (text_fits i h))

  pub length_lines : (k : ℕ) → k ≤ page_lines * pages (length ns) → length (lines columns ns k) ≡ line_size * k
  unfolding lines
  length_lines zero h = refl
  length_lines (suc k) h =
      length-append (lines columns ns k) (line_at columns ns k) ∙ omega (arith, length_lines k (omega arith), length_line k (omega arith))

-- ---- lines one after another

pub lines_none : (columns : ℕ) (ns : List Note) → lines columns ns 0 ≡ []
unfolding lines
lines_none columns ns = refl

pub lines_more : (columns : ℕ) (ns : List Note) (k : ℕ) → lines columns ns (k + 1) ≡ lines columns ns k ++ line_at columns ns k
unfolding lines
lines_more columns ns k = rw (add-one k)

-- ---- the answers

pub too_short : (t buffer : List ℕ) → length buffer < length t → (refused Numbers.sheet_too_short, buffer) ≡ given t buffer
unfolding given
too_short t buffer l = rw (lt-leb (length t) (length buffer) l)

pub in_buffer : (t buffer : List ℕ) → length t ≤ length buffer → (written (length t), splice buffer 0 t) ≡ given t buffer
unfolding given
in_buffer t buffer l = rw (le-leb (length t) (length buffer) l)

-- ---- a chart that was read

pub fits_read : (s : List ℕ) (c : Score) → Bytes s → decode s ≡ some c → Fits c.columns c.notes
fits_read s c b e =
    record {
      few_notes = notes_few s c b e;
      each = λ i h. record {
        few_columns = columns_few s c e;
        on_deck = (note_bounds s c e i h).0;
        start = record { finite = (notes_times c.columns 0 c.notes (notes_ok s c e) i blank h).0; in_time = (note_bounds s c e i h).1 };
      };
    }

-- what the reader's answer says
pub record Known (s : List ℕ) (columns count : ℕ) : Type 0 where
  pub fits : Fits columns (notes_in s)
  pub counted : count ≡ length (notes_in s)
  pub put : (buffer : List ℕ) → given (lines columns (notes_in s) (page_lines * pages count)) buffer ≡ putting (decode s) buffer

known_score : (s : List ℕ) (c : Score) (columns notes : ℕ) → Bytes s → decode s ≡ some c → c.columns ≡ columns → length c.notes ≡ notes → Known s columns notes
unfolding notes_read putting sheet
known_score s c columns notes b is columns_are notes_are =
    record {
      fits = rw (is, ← columns_are) (fits_read s c b is);
      counted = rw is (sym notes_are);
      put = λ buffer. rw (is, ← columns_are, ← notes_are);
    }

pub known : (s : List ℕ) (v : Version) (columns notes draws : ℕ) → Bytes s → accepted v columns notes draws ≡ reading_of (decode s) → Known s columns notes
known s v columns notes draws b e =
    let k = accepted_score (decode s) v columns notes draws e in known_score s k.0 columns notes b k.1.0 k.1.1.0 k.1.1.1
