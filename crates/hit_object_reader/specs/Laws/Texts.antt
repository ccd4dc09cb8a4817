-- The lines of a text, one after another.
-- Assumes nothing.
use Rattle.std.proofs.Math.Path.{◌≡◌, refl, sym, ap}
use Rattle.std.proofs.Common.{◌∙◌, zero-add, add-zero, add-one, arith, length-drop, drop-cons, take-suc, length-take-le}
use Rattle.std.specs.Prelude.{Bool, ◌&&◌, cond, List, [], ◌∷◌, ℕ, zero, suc, ◌+◌, ◌*◌, ◌≤◌, ◌<◌, length, get_or, take, drop}
use Rattle.std.proofs.Math.Bool.{true, false, and-false}
use Rattle.std.proofs.Math.Option
use Rattle.std.proofs.Math.Option.{Option, none, some, bind, map, some-injective}
use Rattle.std.proofs.Math.Dec.{leb}
use borrow.Author.Tests.{le-leb, lt-leb}
use Rattle.rules.specs.Numbers as Numbers
use Rattle.chart.specs.Layout.{most_in_chart, note_size_in, chart_size_in}
use Rattle.chart.specs.declared.Version.TheVariants.{One}
use Rattle.chart.specs.declared.Note.{Note}
use Rattle.chart.specs.Bytes.{splice}
use Rattle.chart.specs.Chart.{blank, body, note_bytes, encode}
use Rattle.chart.specs.Laws.Bytes.{splice_next, splice_none}
use Rattle.chart.specs.Laws.Notes.{length_encode, length_body, length_note, body_append, body_one}
use Rattle.chart.specs.Order.{rank}
use Rattle.hit_object_lines.specs.Lines.{refused, written, stored}
use Rattle.hit_object_lines.specs.Reading.{note_on, notes_on, in_order, fitting, notes_for, reading_of, reading}
use Rattle.hit_object_reader.specs.Told.{Columns, count_of, lines_notes}

-- how many notes there are, after k notes of which the last has the rank `last`; none where they do not follow, or are too many
unfoldable pub count_from : ℕ → ℕ → Option (List Note) → Option ℕ
count_from last k none = none
count_from last k (some ns) = cond (in_order last ns && leb (k + length ns) most_in_chart) (some (k + length ns)) none

-- ---- the next line

pub none_left : (columns k : ℕ) → notes_on k columns [] ≡ some []
unfolding notes_on
none_left columns zero = refl
none_left columns (suc k) = refl

module _ (columns k : ℕ) where
  pub text_none : (s : List ℕ) → 0 < length s → note_on columns s ≡ none → notes_on (suc k) columns s ≡ none
  unfolding notes_on bind
  text_none [] l e = absurd (omega arith)
  text_none (c ∷ s) l e = rw e

  pub text_next : (s : List ℕ) (n : Note) (r : List ℕ) → 0 < length s → note_on columns s ≡ some (n, r) → notes_on (suc k) columns s ≡ map (λ ns. n ∷ ns) (notes_on k columns r)
  unfolding notes_on bind
  text_next [] n r l e = absurd (omega arith)
  text_next (c ∷ s) n r l e = rw e

-- ---- the count

pub count_next : (last k : ℕ) (n : Note) (o : Option (List Note)) → last ≤ rank n → count_from last k (map (λ ns. n ∷ ns) o) ≡ count_from (rank n) (k + 1) o
unfolding count_from in_order
count_next last k n none h = refl
count_next last k n (some ns) h = let e : k + suc (length ns) ≡ k + 1 + length ns = omega arith in rw (le-leb last (rank n) h, e)

pub count_falls : (last k : ℕ) (n : Note) (o : Option (List Note)) → rank n < last → count_from last k (map (λ ns. n ∷ ns) o) ≡ none
unfolding count_from in_order
count_falls last k n none h = refl
count_falls last k n (some ns) h = rw (lt-leb last (rank n) h)

over : (last : ℕ) (n : Note) (o : Option (List Note)) → count_from last most_in_chart (map (λ ns. n ∷ ns) o) ≡ none
unfolding count_from
over last n none = refl
over last n (some ns) = rw (lt-leb (most_in_chart + suc (length ns)) most_in_chart (omega arith), and-false (in_order last (n ∷ ns)))

-- after the most notes there is no other line
pub count_full : (last columns k : ℕ) (s : List ℕ) → 0 < length s → count_from last most_in_chart (notes_on (suc k) columns s) ≡ none
unfolding count_from
count_full last columns k s l = by_row (note_on columns s) refl
  where
    by_row : (o : Option (Note × List ℕ)) → note_on columns s ≡ o → count_from last most_in_chart (notes_on (suc k) columns s) ≡ none
    by_row none e = ap (count_from last most_in_chart) (text_none columns k s l e)
    by_row (some p) e = ap (count_from last most_in_chart) (text_next columns k s p.0 p.1 l e) ∙ over last p.0 (notes_on k columns p.1)

pub count_end : (last k : ℕ) → k ≤ most_in_chart → count_from last k (some []) ≡ some k
unfolding count_from in_order
count_end last k h = rw (add-zero k, le-leb k most_in_chart h)

count_fitting : (o : Option (List Note)) → count_of (bind o fitting) ≡ count_from 0 0 o
unfolding bind fitting count_from
count_fitting none = refl
count_fitting (some ns) = rw (zero-add (length ns)) (by_test (in_order 0 ns && leb (length ns) most_in_chart))
  where
    by_test : (t : Bool) → count_of (cond t (some ns) none) ≡ cond t (some (length ns)) none
    by_test true = refl
    by_test false = refl

module _ (columns : ℕ) (h : Columns columns) (s : List ℕ) where
  notes_for_law : notes_for columns s ≡ bind (notes_on (length s) columns s) fitting
  unfolding notes_for
  notes_for_law = rw (le-leb 1 columns h.low, le-leb columns 9 h.high)

  pub count_first : count_of (notes_for columns s) ≡ count_from 0 0 (notes_on (length s) columns s)
  count_first = ap count_of notes_for_law ∙ count_fitting (notes_on (length s) columns s)

  -- ---- the reader's answers

  kept : (o : Option (List Note)) (k : ℕ) → some k ≡ count_of (bind o fitting) → (o ≡ some (Option.get_or o [])) × ((bind o fitting ≡ some (Option.get_or o [])) × (length (Option.get_or o []) ≡ k))
  unfolding bind fitting
  kept none k e = absurd (let y : ◌≡◌ {A = ℕ} 0 1 = cc in omega arith)
  kept (some ns) k e = by_test (in_order 0 ns && leb (length ns) most_in_chart) refl
    where
      by_test : (t : Bool) → in_order 0 ns && leb (length ns) most_in_chart ≡ t → (some ns ≡ some ns) × ((cond (in_order 0 ns && leb (length ns) most_in_chart) (some ns) none ≡ some ns) × (length ns ≡ k))
      by_test true h = (refl, (rw h, sym (some-injective k (length ns) (rw h at e))))
      by_test false h = absurd (let z : ◌≡◌ {A = Option ℕ} (some k) none = rw h at e in let y : ◌≡◌ {A = ℕ} 0 1 = cc in omega arith)

  pub counted : (k : ℕ) → some k ≡ count_of (notes_for columns s)
      → (notes_on (length s) columns s ≡ some (lines_notes columns s)) × ((notes_for columns s ≡ some (lines_notes columns s)) × (length (lines_notes columns s) ≡ k))
  unfolding lines_notes
  counted k e = let w = kept (notes_on (length s) columns s) k (e ∙ ap count_of notes_for_law) in (w.0, (notes_for_law ∙ w.1.0, w.1.1))

module _ (columns : ℕ) (s chart : List ℕ) where
  pub refused_lines : none ≡ count_of (notes_for columns s) → reading s columns chart ≡ (refused Numbers.hit_objects, chart)
  unfolding reading reading_of
  refused_lines e = by_notes (notes_for columns s) refl
    where
      by_notes : (o : Option (List Note)) → notes_for columns s ≡ o → reading s columns chart ≡ (refused Numbers.hit_objects, chart)
      by_notes none h = rw h
      by_notes (some ns) h = absurd (let z : ◌≡◌ {A = Option ℕ} none (some (length ns)) = e ∙ ap count_of h in let y : ◌≡◌ {A = ℕ} 0 1 = cc in omega arith)

  module _ (ns : List Note) (is : notes_for columns s ≡ some ns) where
    pub too_short : length chart < chart_size_in One (length ns) → reading s columns chart ≡ (refused Numbers.chart_too_short, chart)
    unfolding reading reading_of stored
    too_short l = rw is (rw (lt-leb (length (encode One columns 0 ns)) (length chart) (rw (length_encode One columns 0 ns) l)))

    pub made : chart_size_in One (length ns) ≤ length chart → reading s columns chart ≡ (written (chart_size_in One (length ns)), splice chart 0 (encode One columns 0 ns))
    unfolding reading reading_of stored
    made l = rw is (rw (le-leb (length (encode One columns 0 ns)) (length chart) (rw (length_encode One columns 0 ns) l), length_encode One columns 0 ns))

  pub few_columns : columns < 1 → reading s columns chart ≡ (refused Numbers.hit_objects, chart)
  unfolding reading reading_of notes_for
  few_columns l = rw (lt-leb 1 columns l)

  pub many_columns : 1 ≤ columns → 9 < columns → reading s columns chart ≡ (refused Numbers.hit_objects, chart)
  unfolding reading reading_of notes_for
  many_columns k l = rw (le-leb 1 columns k, lt-leb columns 9 l)

-- ---- the notes, stored one by one

-- the next of the notes ns
pub next_note : (ns : List Note) (i : ℕ) (n : Note) (o : Option (List Note)) → map (λ ms. n ∷ ms) o ≡ some (drop i ns)
    → (i < length ns) × ((n ≡ get_or ns i blank) × (o ≡ some (drop (i + 1) ns)))
next_note ns i n none e = absurd (let y : ◌≡◌ {A = ℕ} 0 1 = cc in omega arith)
next_note ns i n (some ms) e =
    let is : n ∷ ms ≡ drop i ns = some-injective (n ∷ ms) (drop i ns) e in
    let l : i < length ns = omega (arith, ap length is, length-drop i ns) in
    let here : n ∷ ms ≡ get_or ns i blank ∷ drop (i + 1) ns = is ∙ drop-cons ns i blank l ∙ rw (add-one i) in
    (l, (cc, ap some (ap (drop 1) here)))

pub stored_note : (c₀ : List ℕ) (ns : List Note) (i : ℕ) → i < length ns → chart_size_in One (length ns) ≤ length c₀
    → splice (splice c₀ 8 (body One (take i ns))) (chart_size_in One i) (note_bytes One (get_or ns i blank)) ≡ splice c₀ 8 (body One (take (i + 1) ns))
stored_note c₀ ns i l fits =
    let size : length (body One (take i ns)) ≡ note_size_in One * i = length_body One (take i ns) ∙ rw (length-take-le i ns (omega arith)) in
    splice_next c₀ 8 (body One (take i ns)) (chart_size_in One i) (note_bytes One (get_or ns i blank)) (omega arith) (omega (arith, length_note One (get_or ns i blank)))
    ∙ ap (splice c₀ 8) (sym (rw (add-one i, take-suc ns i blank l) (body_append One (take i ns) (get_or ns i blank ∷ []) ∙ rw (body_one One (get_or ns i blank)))))

pub none_stored : (c₀ : List ℕ) → 8 ≤ length c₀ → c₀ ≡ splice c₀ 8 (body One [])
unfolding body
none_stored c₀ l = sym (splice_none c₀ 8 l)
