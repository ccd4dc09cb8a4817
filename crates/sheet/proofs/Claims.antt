-- The claims on the sheet, proved of every chart that is read.
-- Assumes nothing.
use mathlib.Core.Path.{◌≡◌, refl, sym, ap, ◌∙◌}
use mathlib.Core.Bool.{Bool, true, false}
use mathlib.Core.List.{List, [], ◌∷◌, ◌++◌, map, append_assoc, append-nil, map-append}
use mathlib.Core.Option.{some}
use Prim.Native.Nat.{ℕ, zero, suc, ◌+◌, ◌-◌, ◌*◌, ◌/◌, ◌%◌, ◌^◌, ◌≤◌, ◌<◌}
use native.Mathlib.Nat.{pow-suc, add-zero, zero-add, le_refl}
use native.Mathlib.Numerals.{add-one}
use native.Mathlib.Omega.{arith}
use lib.Dec.{eqb, ltb}
use Rattle.std.specs.Prelude.{cond}
use lib.ListN.{length, get_or, take, drop, replicate, length-replicate, length-drop}
use lib.Seq.{take_at, drop_at, take_all, take-suc, drop-drop, take-append-le, drop-append-le}
use borrow.Author.Tests.{eq-eqb, ne_eqb, lt-ltb, eqb-true, ltb-true, ltb-false}
use Rattle.chart.specs.declared.Note.{Note}
use Rattle.chart.specs.Bytes.{Bytes}
use Rattle.chart.specs.Tests.{never}
use Rattle.chart.specs.Chart.{Score, decode, blank}
use Rattle.text.specs.Text.{ascii, space, digit, digits, places, decimal, right, left}
use Rattle.text.specs.Laws.{length_right}
use Rattle.sheet.specs.Layout.{page_lines, page_notes, line_width, line_size, number_width, start_width}
use Rattle.sheet.specs.Sheet.{milliseconds, no_note, mark, deck, note_text, head_text, place_at, line_at, lines, pages, sheet}
use Rattle.sheet.specs.Fits.{NoteFits, Fits}
use Rattle.sheet.specs.Laws.{start_digits, length_head, page_fits, text_head, text_note, text_blank, length_line, length_lines, fits_read}
use Rattle.sheet.specs.Claims.{Shown, shown, number, marks, read_line, line_in, read_lines, Claims}

-- ---- a number is read back

number_append : (x : ℕ) (a b : List ℕ) → number x (a ++ b) ≡ number (number x a) b
unfolding number
number_append x [] b = refl
number_append x (c ∷ cs) b = number_append (cond (eqb c space) x (x * 10 + (c - 48))) cs b

number_spaces : (x k : ℕ) → number x (replicate k space) ≡ x
unfolding number
number_spaces x zero = refl
number_spaces x (suc k) = number_spaces x k

-- one digit more
number_digit : (x d : ℕ) → d < 10 → number x (digit d ∷ []) ≡ x * 10 + d
unfolding number digit
number_digit x d h =
    rw (lt-ltb d 10 h, ne_eqb (48 + d) 32 (λ z. omega arith)) (omega arith)

number_digits : (k n : ℕ) → n < 10 ^ k → number 0 (digits 10 k n) ≡ n
unfolding digits number
number_digits zero n h = omega arith
number_digits (suc k) n h =
    let less : n < 10 ^ k * 10 = rw pow-suc at h in
    number_append 0 (digits 10 k (n / 10)) (digit (n % 10) ∷ [])
    ∙ rw (number_digits k (n / 10) (omega arith)) (number_digit (n / 10) (n % 10) (omega arith) ∙ omega arith)

-- a number has no more digits than `places` counts
places_enough : (k : ℕ) (t : Bool) (n : ℕ) → ltb n 10 ≡ t → n ≤ k → n < 10 ^ places k t n
unfolding places
places_enough zero t n e h = omega arith
places_enough (suc k) true n e h = omega (arith, ltb-true n 10 e)
places_enough (suc k) false n e h =
    let p : ℕ = places k (ltb (n / 10) 10) (n / 10) in
    let more : n / 10 < 10 ^ p = places_enough k (ltb (n / 10) 10) (n / 10) refl (omega (arith, ltb-false n 10 e)) in
    rw (add-one p, pow-suc 10 p) (omega arith)

number_right : (width n : ℕ) → number 0 (right width n) ≡ n
unfolding right decimal
number_right width n =
    number_append 0 (replicate (width - length (decimal n)) space) (decimal n)
    ∙ rw (number_spaces 0 (width - length (decimal n))) (number_digits (places n (ltb n 10) n) n (places_enough n (ltb n 10) n refl (le_refl n)))

-- ---- marks are found

-- a place that is no mark
Plain : ℕ → Type 0
Plain c = (c ≡ 35 → ⊥) × (c ≡ 111 → ⊥)

module _ (start : ℕ) where
  marks_one : (i c : ℕ) (t : List ℕ) → Plain c → marks start i (c ∷ t) ≡ marks start (i + 1) t
  unfolding marks Plain
  marks_one i c t p = rw (ne_eqb c 35 p.0, ne_eqb c 111 p.1)

  marks_run : (i c k : ℕ) (t : List ℕ) → Plain c → marks start i (replicate k c ++ t) ≡ marks start (i + k) t
  marks_run i c zero t p = ap (λ (j : ℕ). marks start j t) (sym (add-zero i))
  marks_run i c (suc k) t p =
      let same : i + 1 + k ≡ i + suc k = omega arith in
      marks_one i c (replicate k c ++ t) p ∙ marks_run (i + 1) c k t p ∙ ap (λ (j : ℕ). marks start j t) same

  marks_digits : (i k n : ℕ) (t : List ℕ) → marks start i (digits 10 k n ++ t) ≡ marks start (i + k) t
  unfolding digits digit Plain
  marks_digits i zero n t = ap (λ (j : ℕ). marks start j t) (sym (add-zero i))
  marks_digits i (suc k) n t =
      let d : ℕ = digit (n % 10) in
      let small : d < 58 = rw (lt-ltb (n % 10) 10 (omega arith)) (omega arith) in
      let large : 48 ≤ d = rw (lt-ltb (n % 10) 10 (omega arith)) (omega arith) in
      let same : i + k + 1 ≡ i + suc k = omega arith in
      rw (append_assoc (digits 10 k (n / 10)) (d ∷ []) t)
      (marks_digits i k (n / 10) (d ∷ t) ∙ marks_one (i + k) d t ((λ z. omega arith), (λ z. omega arith)) ∙ ap (λ (j : ℕ). marks start j t) same)

  marks_end : (i : ℕ) → marks start i (ascii "\n") ≡ []
  unfolding marks ascii
  marks_end i = refl

  marks_spaces : (i k : ℕ) → marks start i (replicate k space ++ ascii "\n") ≡ []
  unfolding Plain
  marks_spaces i k = marks_run i 32 k (ascii "\n") ((λ z. omega arith), (λ z. omega arith)) ∙ marks_end (i + k)

  marks_mark : (i : ℕ) (hold : Bool) (t : List ℕ) → marks start i (mark hold ∷ t) ≡ record { column = i; hold = hold; start = start } ∷ marks start (i + 1) t
  unfolding marks
  marks_mark i true t = refl
  marks_mark i false t = refl

  -- the deck of a note, and spaces behind it
  marks_deck : (columns column k : ℕ) (hold : Bool) → marks start 0 (deck columns column (mark hold) ++ (replicate k space ++ ascii "\n")) ≡ record { column = column; hold = hold; start = start } ∷ []
  unfolding deck Plain
  marks_deck columns column k hold =
      let r : ℕ = columns - (column + 1) in
      let t : List ℕ = replicate k space ++ ascii "\n" in
      let s : Shown = record { column = column; hold = hold; start = start } in
      rw (append_assoc (replicate column no_note) (mark hold ∷ replicate r no_note) t)
      (marks_run 0 no_note column (mark hold ∷ (replicate r no_note ++ t)) ((λ z. omega arith), (λ z. omega arith))
      ∙ ap (λ (j : ℕ). marks start j (mark hold ∷ (replicate r no_note ++ t))) (zero-add column)
      ∙ marks_mark column hold (replicate r no_note ++ t)
      ∙ ap (λ (l : List Shown). s ∷ l) (marks_run (column + 1) no_note r t ((λ z. omega arith), (λ z. omega arith)) ∙ marks_spaces (column + 1 + r) k))

-- ---- each kind of line is read

-- what stands after the start and a space
read_parts : (a t : List ℕ) (c : ℕ) → length a ≡ start_width → read_line (a ++ (c ∷ t)) ≡ marks (number 0 a) 0 t
unfolding read_line
read_parts a t c e =
    let rest : drop (9 + 1) (a ++ (c ∷ t)) ≡ t = sym (drop-drop 1 9 (a ++ (c ∷ t))) ∙ ap (drop 1) (drop_at a (c ∷ t) 9 e) in
    rw (take_at a (c ∷ t) 9 e, rest)

read_note : (columns : ℕ) (n : Note) → NoteFits columns n → read_line (left line_width (note_text columns n) ++ ascii "\n") ≡ shown n ∷ []
unfolding left note_text
read_note columns n f =
    let a : List ℕ = right start_width (milliseconds n.start) in
    let d : List ℕ = deck columns n.column (mark n.hold) in
    let k : ℕ = line_width - length (a ++ (space ∷ d)) in
    let parts : ((a ++ (space ∷ d)) ++ replicate k space) ++ ascii "\n" ≡ a ++ (space ∷ (d ++ (replicate k space ++ ascii "\n"))) = simp append_assoc in
    rw parts
    (read_parts a (d ++ (replicate k space ++ ascii "\n")) space (length_right start_width (milliseconds n.start) (start_digits n.start f.start))
    ∙ marks_deck (number 0 a) columns n.column k n.hold
    ∙ rw (number_right start_width (milliseconds n.start)))

read_blank : read_line (left line_width [] ++ ascii "\n") ≡ []
unfolding left
read_blank =
    let parts : left line_width [] ++ ascii "\n" ≡ replicate 9 space ++ (space ∷ (replicate 30 space ++ ascii "\n")) = refl in
    rw parts
    (read_parts (replicate 9 space) (replicate 30 space ++ ascii "\n") space (length-replicate 9 space)
    ∙ marks_spaces (number 0 (replicate 9 space)) 0 30)

-- the word and the first spaces of a page's first line have no mark
read_head : (page : ℕ) → read_line (head_text page ++ ascii "\n") ≡ []
unfolding head_text left ascii right decimal Plain
read_head page =
    let d : List ℕ = decimal page in
    let k : ℕ = number_width - length d in
    let word : List ℕ = ascii "PAGE" ++ replicate 5 space in
    let parts : ((ascii "PAGE" ++ replicate 30 space) ++ (replicate k space ++ d)) ++ ascii "\n" ≡ word ++ (space ∷ (replicate 24 space ++ (replicate k space ++ (d ++ ascii "\n")))) = simp append_assoc in
    rw parts
    (read_parts word (replicate 24 space ++ (replicate k space ++ (d ++ ascii "\n"))) space refl
    ∙ marks_run (number 0 word) 0 space 24 (replicate k space ++ (d ++ ascii "\n")) ((λ z. omega arith), (λ z. omega arith))
    ∙ marks_run (number 0 word) (0 + 24) space k (d ++ ascii "\n") ((λ z. omega arith), (λ z. omega arith))
    ∙ marks_digits (number 0 word) (0 + 24 + k) (places page (ltb page 10) page) page (ascii "\n")
    ∙ marks_end (number 0 word) _)

-- ---- the lines of a sheet

-- a text that fills its places
left_full : (width : ℕ) (t : List ℕ) → length t ≡ width → left width t ≡ t
unfolding left
left_full width t e = let none : width - length t ≡ 0 = omega arith in rw none (append-nil t)

-- how many notes the first k lines have room for
abbrev seen : ℕ → ℕ
seen k = k - (k + 63) / 64

module _ (columns : ℕ) (ns : List Note) (f : Fits columns ns) where
  abbrev total : ℕ
  total = page_lines * pages (length ns)

  line_last : (k : ℕ) → k < total → line_in (lines columns ns (suc k)) k ≡ line_at columns ns k
  unfolding line_in lines
  line_last k h =
      rw (drop_at (lines columns ns k) (line_at columns ns k) (line_size * k) (length_lines columns ns f k (omega arith)))
      (take_all line_size (line_at columns ns k) (omega (arith, length_line columns ns f k h)))

  line_before : (k i : ℕ) → i < k → k < total → line_in (lines columns ns (suc k)) i ≡ line_in (lines columns ns k) i
  unfolding line_in lines
  line_before k i e h =
      let a : List ℕ = lines columns ns k in
      let size : length a ≡ line_size * k = length_lines columns ns f k (omega arith) in
      rw (drop-append-le (line_size * i) a (line_at columns ns k) (omega arith))
      (take-append-le line_size (drop (line_size * i) a) (line_at columns ns k) (rw (length-drop (line_size * i) a) (omega arith)))

  line_pick : (k i : ℕ) (t : Bool) → ltb i k ≡ t → i < suc k → k < total → (i < k → line_in (lines columns ns k) i ≡ line_at columns ns i)
      → line_in (lines columns ns (suc k)) i ≡ line_at columns ns i
  line_pick k i true e h l before = let less = ltb-true i k e in line_before k i less l ∙ before less
  line_pick k i false e h l before = let same : i ≡ k = omega (arith, ltb-false i k e) in rw same (line_last k l)

  line_in_law : (k i : ℕ) → i < k → k ≤ total → line_in (lines columns ns k) i ≡ line_at columns ns i
  line_in_law zero i h l = absurd (omega arith)
  line_in_law (suc k) i h l = line_pick k i (ltb i k) refl h (omega arith) (λ (e : i < k). line_in_law k i e (omega arith))

  line_of : (i : ℕ) → i < total → line_in (lines columns ns total) i ≡ line_at columns ns i
  line_of i h = line_in_law total i h (le_refl total)

  -- ---- what each line shows

  head_line_law : (i : ℕ) → i < total → i % page_lines ≡ 0 → line_at columns ns i ≡ head_text (i / page_lines + 1) ++ ascii "\n"
  unfolding line_at
  head_line_law i h e =
      rw (text_head columns ns i e)
      (ap (λ (t : List ℕ). t ++ ascii "\n") (left_full line_width (head_text (i / page_lines + 1)) (length_head (i / page_lines + 1) (page_fits (length ns) i f.few_notes h))))

  note_line_law : (i : ℕ) → (i % page_lines ≡ 0 → ⊥) → place_at i < length ns → read_line (line_at columns ns i) ≡ shown (get_or ns (place_at i) blank) ∷ []
  unfolding line_at
  note_line_law i e l = rw (text_note columns ns i e l) (read_note columns (get_or ns (place_at i) blank) (f.each (place_at i) l))

  blank_line : (i : ℕ) → (i % page_lines ≡ 0 → ⊥) → length ns ≤ place_at i → line_at columns ns i ≡ left line_width [] ++ ascii "\n"
  unfolding line_at
  blank_line i e l = rw (text_blank columns ns i e l)

  -- ---- all lines, one after another

  -- one line more
  Next : ℕ → Type 0
  Next k = map shown (take (seen k) ns) ++ read_line (line_at columns ns k) ≡ map shown (take (seen (suc k)) ns)

  next_head : (k : ℕ) → k < total → k % page_lines ≡ 0 → Next k
  unfolding Next
  next_head k h e =
      let same : seen (suc k) ≡ seen k = omega arith in
      rw (head_line_law k h e, read_head (k / page_lines + 1), same) (append-nil (map shown (take (seen k) ns)))

  next_note : (k : ℕ) → (k % page_lines ≡ 0 → ⊥) → place_at k < length ns → Next k
  unfolding Next
  next_note k e l =
      let here : seen k ≡ place_at k = omega arith in
      let more : seen (suc k) ≡ suc (place_at k) = omega arith in
      rw (note_line_law k e l, here, more, take-suc ns (place_at k) blank l) (sym (map-append shown (take (place_at k) ns) (get_or ns (place_at k) blank ∷ [])))

  next_blank : (k : ℕ) → (k % page_lines ≡ 0 → ⊥) → length ns ≤ place_at k → Next k
  unfolding Next
  next_blank k e l =
      let here : seen k ≡ place_at k = omega arith in
      let more : seen (suc k) ≡ suc (place_at k) = omega arith in
      rw (blank_line k e l, read_blank, here, more, take_all (place_at k) ns l, take_all (suc (place_at k)) ns (omega arith)) (append-nil (map shown ns))

  next : (k : ℕ) → k < total → Next k
  next k h = by_head (eqb (k % page_lines) 0) refl
    where
      by_note : (t : Bool) → ltb (place_at k) (length ns) ≡ t → (k % page_lines ≡ 0 → ⊥) → Next k
      by_note true e no_head = next_note k no_head (ltb-true (place_at k) (length ns) e)
      by_note false e no_head = next_blank k no_head (ltb-false (place_at k) (length ns) e)

      by_head : (t : Bool) → eqb (k % page_lines) 0 ≡ t → Next k
      by_head true e = next_head k h (eqb-true (k % page_lines) 0 e)
      by_head false e = by_note (ltb (place_at k) (length ns)) refl (λ z. never (eq-eqb (k % page_lines) 0 z) e)

  first_lines : (k : ℕ) → k ≤ total → read_lines k (lines columns ns total) ≡ map shown (take (seen k) ns)
  unfolding read_lines Next
  first_lines zero h = refl
  first_lines (suc k) h = rw (first_lines k (omega arith), line_of k (omega arith)) (next k (omega arith))

  all_lines : read_lines total (lines columns ns total) ≡ map shown ns
  all_lines = first_lines total (le_refl total) ∙ ap (map shown) (take_all (seen total) ns (omega arith))

-- ---- the claims

module _ (c : Score) (f : Fits c.columns c.notes) where
  abbrev n : ℕ
  n = length c.notes

  head_of_law : (p : ℕ) → p < pages n → line_in (sheet c) (page_lines * p) ≡ head_text (p + 1) ++ ascii "\n"
  unfolding sheet
  head_of_law p h =
      let page : page_lines * p / page_lines ≡ p = omega arith in
      line_of c.columns c.notes f (page_lines * p) (omega arith) ∙ rw page at (head_line_law c.columns c.notes f (page_lines * p) (omega arith) (omega arith))

  note_of_law : (p k : ℕ) → k < page_notes → page_notes * p + k < n → read_line (line_in (sheet c) (page_lines * p + (k + 1))) ≡ shown (get_or c.notes (page_notes * p + k) blank) ∷ []
  unfolding sheet
  note_of_law p k h l =
      let i : ℕ = page_lines * p + (k + 1) in
      let place : place_at i ≡ page_notes * p + k = omega arith in
      rw (line_of c.columns c.notes f i (omega arith)) (rw place at (note_line_law c.columns c.notes f i (λ z. omega arith) (rw place l)))

  rest_of : (p k : ℕ) → p < pages n → k < page_notes → n ≤ page_notes * p + k → line_in (sheet c) (page_lines * p + (k + 1)) ≡ left line_width [] ++ ascii "\n"
  unfolding sheet
  rest_of p k g h l =
      let i : ℕ = page_lines * p + (k + 1) in
      line_of c.columns c.notes f i (omega arith) ∙ blank_line c.columns c.notes f i (λ z. omega arith) (omega arith)

  size_of : length (sheet c) ≡ line_size * (page_lines * pages n)
  unfolding sheet
  size_of = length_lines c.columns c.notes f (page_lines * pages n) (le_refl _)

  all_of : read_lines (page_lines * pages n) (sheet c) ≡ map shown c.notes
  unfolding sheet
  all_of = all_lines c.columns c.notes f

-- of every chart that is read
pub claims : (s : List ℕ) → Bytes s → (c : Score) → decode s ≡ some c → Claims c
claims s b c e =
    let f = fits_read s c b e in
    record { size = size_of c f; head = head_of_law c f; note = note_of_law c f; rest = rest_of c f; all = all_of c f }
