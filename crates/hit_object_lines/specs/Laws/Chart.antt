-- The lines of a chart, note by note, and what the chart reader's answer says of them.
-- Assumes nothing.
use Rattle.std.proofs.Math.Path.{◌≡◌, refl, sym}
use Rattle.std.proofs.Common.{ap, ◌∙◌, append_assoc, append-nil, arith, length-append, take-append-drop, drop_of_length-le, drop-cons}
use Rattle.std.specs.Prelude.{Bool, ◌&&◌, List, [], ◌∷◌, ◌++◌, ℕ, zero, suc, ◌+◌, ◌≤◌, ◌<◌, length, get_or, take, drop}
use Rattle.std.proofs.Math.Bool.{true, false}
use Rattle.std.proofs.Math.Option.{Option, none, some, some-injective}
use Rattle.std.proofs.Math.Numerals.{add-one}
use Rattle.std.proofs.Math.Seq.{take-suc}
use borrow.Author.Tests.{leb-true, le-leb, lt-leb}
use Rattle.rules.specs.Numbers as Numbers
use Rattle.chart.specs.declared.Version.{Version}
use Rattle.chart.specs.declared.Note.{Note}
use Rattle.chart.specs.Bytes.{splice}
use Rattle.chart.specs.Tests.{both, passes}
use Rattle.chart.specs.Chart.{Score, accepted, decode, ok_chart, ok_head, ok_rows, head_tests, version_of, columns_of, count_of, score_of, notes_read, notes_in, blank}
use Rattle.chart.specs.Chart as Chart
use Rattle.chart.specs.Laws.Reader.{accepted_score, refused_none, read_score, notes_ok}
use Rattle.hit_object_lines.specs.Lines.{line_text, line_of, chart_lines, is_whole, all_whole, refused, written, stored, writing, writing_of, writing_notes}
use Rattle.hit_object_lines.specs.Told.{size_of}
use Rattle.hit_object_lines.specs.Laws.Notes.{Notes}

-- ---- whole times

pub whole_at : (ns : List Note) → all_whole ns ≡ true → (i : ℕ) (d : Note) → i < length ns → is_whole (get_or ns i d) ≡ true
unfolding all_whole
whole_at [] h i d l = absurd (omega arith)
whole_at (n ∷ ns) h zero d l = (both (is_whole n) (all_whole ns) h).0
whole_at (n ∷ ns) h (suc i) d l = whole_at ns (both (is_whole n) (all_whole ns) h).1 i d (omega arith)

module _ (ns : List Note) (i : ℕ) (l : i < length ns) where
  whole_here : all_whole (drop i ns) ≡ is_whole (get_or ns i blank) && all_whole (drop (i + 1) ns)
  unfolding all_whole
  whole_here = rw (drop-cons ns i blank, add-one i)

  pub whole_next : is_whole (get_or ns i blank) ≡ true → all_whole (drop i ns) ≡ all_whole (drop (i + 1) ns)
  whole_next h = whole_here ∙ rw h

  pub whole_fails : is_whole (get_or ns i blank) ≡ false → all_whole (drop i ns) ≡ false
  whole_fails h = whole_here ∙ rw h

-- ---- lines

lines_append : (columns : ℕ) (ms ns : List Note) → chart_lines columns (ms ++ ns) ≡ chart_lines columns ms ++ chart_lines columns ns
unfolding chart_lines
lines_append columns [] ns = refl
lines_append columns (m ∷ ms) ns = rw (lines_append columns ms ns) (sym (append_assoc (line_text (line_of columns m)) (chart_lines columns ms) (chart_lines columns ns)))

module _ (columns : ℕ) (ns : List Note) where
  pub lines_none : chart_lines columns (take 0 ns) ≡ []
  unfolding chart_lines
  lines_none = refl

  pub lines_all : (i : ℕ) → length ns ≤ i → chart_lines columns (drop i ns) ≡ []
  unfolding chart_lines
  lines_all i h = rw (drop_of_length-le ns h)

  pub whole_all : (i : ℕ) → length ns ≤ i → all_whole (drop i ns) ≡ true
  unfolding all_whole
  whole_all i h = rw (drop_of_length-le ns h)

  module _ (i : ℕ) (l : i < length ns) where
    pub lines_next : length (chart_lines columns (drop i ns)) ≡ length (line_text (line_of columns (get_or ns i blank))) + length (chart_lines columns (drop (i + 1) ns))
    unfolding chart_lines
    lines_next = rw (drop-cons ns i blank l, add-one i) (length-append (line_text (line_of columns (get_or ns i blank))) (chart_lines columns (drop (suc i) ns)))

    pub lines_more : chart_lines columns (take (i + 1) ns) ≡ chart_lines columns (take i ns) ++ line_text (line_of columns (get_or ns i blank))
    unfolding chart_lines
    lines_more = rw (add-one i, take-suc ns i blank l) (lines_append columns (take i ns) (get_or ns i blank ∷ []) ∙ rw (append-nil (line_text (line_of columns (get_or ns i blank)))))

  pub lines_split : (i : ℕ) → length (chart_lines columns ns) ≡ length (chart_lines columns (take i ns)) + length (chart_lines columns (drop i ns))
  lines_split i =
      ap (λ (m : List Note). length (chart_lines columns m)) (sym (take-append-drop i ns))
      ∙ ap length (lines_append columns (take i ns) (drop i ns))
      ∙ length-append (chart_lines columns (take i ns)) (chart_lines columns (drop i ns))

-- ---- the reader's answer

columns_in_law : (s : List ℕ) (c : Score) → decode s ≡ some c → (0 < c.columns) × (c.columns ≤ 9)
unfolding ok_chart ok_head head_tests score_of
columns_in_law s c e =
    let k = read_score s c e in
    let tests = passes (head_tests s) (both (ok_head s) (ok_rows (version_of s) (columns_of s) 0 (count_of s) (drop 8 s)) k.0).0 in
    let is : columns_of s ≡ c.columns = ap (λ (t : Score). t.columns) k.1 in
    rw (← is) (leb-true 1 (columns_of s) (tests 2), leb-true (columns_of s) 9 (tests 3))

module _ (s text : List ℕ) where
  by_score : (c : Score) (columns notes : ℕ) → decode s ≡ some c → c.columns ≡ columns → length c.notes ≡ notes
      → Notes columns notes (notes_in s) × ((columns ≤ 9) × (writing s text ≡ writing_notes columns (notes_in s) text))
  unfolding writing writing_of notes_read
  by_score c columns notes is here size =
      let own = columns_in_law s c is in
      rw (is, ← here) (record { some_columns = own.0; size = sym size; ok = notes_ok s c is }, (own.1, refl))

  pub read_notes_law : (v : Version) (columns notes draws : ℕ) → accepted v columns notes draws ≡ Chart.reading s
      → Notes columns notes (notes_in s) × ((columns ≤ 9) × (writing s text ≡ writing_notes columns (notes_in s) text))
  unfolding Chart.reading
  read_notes_law v columns notes draws e =
      let k = accepted_score (decode s) v columns notes draws e in
      by_score k.0 columns notes k.1.0 k.1.1.0 k.1.1.1

  pub read_refused : (n : ℕ) → Chart.refused n ≡ Chart.reading s → writing s text ≡ (refused Numbers.broken_chart, text)
  unfolding Chart.reading writing writing_of
  read_refused n e = rw (refused_none (decode s) n e)

-- ---- the writer's answer

module _ (columns : ℕ) (ns : List Note) (text : List ℕ) where
  pub not_whole_law : all_whole ns ≡ false → writing_notes columns ns text ≡ (refused Numbers.not_whole, text)
  unfolding writing_notes
  not_whole_law h = rw h

  pub no_room : all_whole ns ≡ true → length text < length (chart_lines columns ns) → writing_notes columns ns text ≡ (refused Numbers.text_too_short, text)
  unfolding writing_notes stored
  no_room h l = rw (h, lt-leb (length (chart_lines columns ns)) (length text) l)

  pub room : all_whole ns ≡ true → length (chart_lines columns ns) ≤ length text
      → writing_notes columns ns text ≡ (written (length (chart_lines columns ns)), splice text 0 (chart_lines columns ns))
  unfolding writing_notes stored
  room h l = rw (h, le-leb (length (chart_lines columns ns)) (length text) l)

  -- what the size says
  pub size_some : (k : ℕ) → some k ≡ size_of columns ns → (all_whole ns ≡ true) × (length (chart_lines columns ns) ≡ k)
  unfolding size_of
  size_some k e = by_test (all_whole ns) refl
    where
      by_test : (t : Bool) → all_whole ns ≡ t → (all_whole ns ≡ true) × (length (chart_lines columns ns) ≡ k)
      by_test true h = (h, sym (some-injective k (length (chart_lines columns ns)) (rw h at e)))
      by_test false h = absurd (let z : ◌≡◌ {A = Option ℕ} (some k) none = rw h at e in let y : ◌≡◌ {A = ℕ} 0 1 = cc in omega arith)

  pub size_none : none ≡ size_of columns ns → all_whole ns ≡ false
  unfolding size_of
  size_none e = by_test (all_whole ns) refl
    where
      by_test : (t : Bool) → all_whole ns ≡ t → all_whole ns ≡ false
      by_test true h = absurd (let z : ◌≡◌ {A = Option ℕ} none (some (length (chart_lines columns ns))) = rw h at e in let y : ◌≡◌ {A = ℕ} 0 1 = cc in omega arith)
      by_test false h = h
