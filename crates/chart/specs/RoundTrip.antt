-- Reading the encoding of a chart that keeps the rule gives the chart back, and every list of bytes that is read is the encoding of what it gives.
-- Assumes nothing.
use Rattle.std.specs.Prelude.{◌≡◌, refl, true, List, [], ◌∷◌, ◌++◌, ℕ, zero, suc, ◌+◌, ◌*◌, ◌/◌, ◌%◌, ◌≤◌, ◌<◌, eqb, length, get_or, drop}
use Rattle.std.proofs.Common.{sym, ap, ap₂, ◌∙◌, subst, append_assoc, arith, length-drop, drop-drop, drop_at, le-leb, eq-eqb, ne_eqb, leb-true, ltb-true, eqb-true}
use Rattle.std.proofs.Math.Option.{some}
use Rattle.rules.specs.Each.{Each}
use Rattle.rules.specs.Laws.Each.{each_map}
use Rattle.chart.specs.Layout.{chart_size_in, note_size_in, version_number, zero_unit}
use Rattle.chart.specs.declared.Version.{Version}
use Rattle.chart.specs.declared.Version.TheVariants.{One, Two}
use Rattle.chart.specs.declared.Note.{Note}
use Rattle.chart.specs.Bytes.{Bytes, be, num}
use Rattle.chart.specs.Tests.{every, both, passes}
use Rattle.chart.specs.Chart.{Tells, head_of, version_of, note_bytes, body, header, encode, note_of, notes_of, head_tests, note_tests, ok_note, ok_notes, ok_row, ok_rows, ok_head, ok_chart, Well, Score, score_of, decode, columns_of, count_of, draws_of}
use Rattle.chart.specs.Laws.Bytes.{bytes_drop, num_be, be_num, num_fits}
use Rattle.chart.specs.Laws.Notes.{Fit, Fits, note_back, row_back, head_says, head_of_law, fits_notes, length_note, size_next, length_encode, length_notes_of}
use Rattle.chart.specs.Order.{rank}
use Rattle.chart.specs.Laws.Reader.{note_fits, read_score}

-- ---- from a chart to its bytes and back

rows_step : (v : Version) (c l k : ℕ) (s : List ℕ) (n : Note) → note_of v s ≡ n → head_of v s % zero_unit v ≡ 0 → ok_note c l n ≡ true
    → ok_rows v c l (suc k) s ≡ ok_rows v c (rank n) k (drop (note_size_in v) s)
unfolding ok_rows ok_row
rows_step v c l k s n e z h = rw (z, e, h)

-- a note that may stand in a chart of at most 9 columns, and tells its object as the version has it, fits its fields
note_fit : (v : Version) (c l : ℕ) (n : Note) → c ≤ 9 → ok_note c l n ≡ true → Tells v n.origin → Fit v n
unfolding ok_note note_tests
note_fit v c l n few h t =
    let times = note_fits c l n h in
    let on : n.column < c = ltb-true n.column c (passes (note_tests c l n) h 0) in
    record { column = omega arith; told = t; start = omega (arith, times.0); duration = omega (arith, times.1) }

rows_back : (v : Version) (c l : ℕ) (ns : List Note) → c ≤ 9 → ok_notes c l ns ≡ true → Each (λ n. Tells v n.origin) ns
    → (ok_rows v c l (length ns) (body v ns) ≡ true) × (notes_of v (length ns) (body v ns) ≡ ns)
unfolding ok_notes ok_rows body notes_of
rows_back v c l [] few h t = (refl, refl)
rows_back v c l (n ∷ ns) few h t =
    let here = both (ok_note c l n) (ok_notes c (rank n) ns) h in
    let fit = note_fit v c l n few here.0 t.0 in
    let back : note_of v (note_bytes v n ++ body v ns) ≡ n = note_back v n (body v ns) fit in
    let zeros : head_of v (note_bytes v n ++ body v ns) % zero_unit v ≡ 0 = rw (head_of_law v n (body v ns) fit) (head_says v n t.0).zeros in
    let behind : drop (note_size_in v) (note_bytes v n ++ body v ns) ≡ body v ns = drop_at (note_bytes v n) (body v ns) (note_size_in v) (length_note v n) in
    let rest = rows_back v c (rank n) ns few here.1 t.1 in (
      rows_step v c l (length ns) (note_bytes v n ++ body v ns) n back zeros here.0 ∙ rw behind rest.0,
      rw behind (ap₂ (λ (a : Note) (b : List Note). a ∷ b) back rest.1),
    )

decode_is : (s : List ℕ) (v : Version) (c d : ℕ) (ns : List Note) → 8 ≤ length s → version_of s ≡ v → get_or s 0 0 / 16 ≡ version_number v → columns_of s ≡ c → 1 ≤ c → c ≤ 9 → count_of s ≡ length ns
    → draws_of s ≡ d → length s ≡ chart_size_in v (length ns) → ok_rows v c 0 (length ns) (drop 8 s) ≡ true → notes_of v (length ns) (drop 8 s) ≡ ns
    → decode s ≡ some (record { version = v; columns = c; draws = d; notes = ns })
unfolding decode ok_chart ok_head head_tests every score_of
decode_is s v c d ns long version number columns low high count draws size rows notes =
    rw (version, columns, count, draws)
    (rw (eq-eqb (get_or s 0 0 / 16) (version_number v) number, le-leb 8 (length s) long, le-leb 1 c low, le-leb c 9 high, eq-eqb (length s) (chart_size_in v (length ns)) size, rows, notes))

version_back : (v : Version) (s : List ℕ) → get_or s 0 0 / 16 ≡ version_number v → version_of s ≡ v
unfolding version_of
version_back One s e = rw (eq-eqb (get_or s 0 0 / 16) 1 e)
version_back Two s e = rw (ne_eqb (get_or s 0 0 / 16) 1 (λ z. omega arith))

number_back : (v : Version) (c : ℕ) → c ≤ 9 → ((version_number v * 16 + c) / 16 ≡ version_number v) × ((version_number v * 16 + c) % 16 ≡ c)
number_back One c h = (omega arith, omega arith)
number_back Two c h = (omega arith, omega arith)

pub decode_encode : (v : Version) (c d : ℕ) (ns : List Note) → Well v c d ns → decode (encode v c d ns) ≡ some (record { version = v; columns = c; draws = d; notes = ns })
unfolding columns_of count_of draws_of encode header be
decode_encode v c d ns w =
    let rows = rows_back v c 0 ns w.few_columns w.notes_ok w.objects_told in
    let first = number_back v c w.few_columns in
    decode_is (encode v c d ns) v c d ns (omega arith) (version_back v (encode v c d ns) first.0) first.0 first.1 w.some_columns w.few_columns
    (num_be 3 (length ns) (be 4 d ++ body v ns) w.notes_fit) (num_be 4 d (body v ns) w.draws_fit) (length_encode v c d ns) rows.0 rows.1

-- ---- from bytes to a chart and back

rows_are : (v : Version) (c l k : ℕ) (s : List ℕ) → length s ≡ note_size_in v * k → Bytes s → ok_rows v c l k s ≡ true → (s ≡ body v (notes_of v k s)) × (ok_notes c l (notes_of v k s) ≡ true)
unfolding ok_rows ok_row ok_notes notes_of body
rows_are v c l zero [] e h ok = (refl, refl)
rows_are One c l zero (a ∷ s) e h ok = absurd (omega arith)
rows_are Two c l zero (a ∷ s) e h ok = absurd (omega arith)
rows_are v c l (suc k) s e h ok =
    let long : length s ≡ note_size_in v + note_size_in v * k = e ∙ size_next v k in
    let here = both (ok_row v c l s) (ok_rows v c (rank (note_of v s)) k (drop (note_size_in v) s)) ok in
    let row = both (eqb (head_of v s % zero_unit v) 0) (ok_note c l (note_of v s)) here.0 in
    let rest = rows_are v c (rank (note_of v s)) k (drop (note_size_in v) s) (rw (length-drop (note_size_in v) s) (omega arith)) (bytes_drop (note_size_in v) s h) here.1 in
    (row_back v s (omega arith) h (eqb-true _ 0 row.0) ∙ ap (λ (t : List ℕ). note_bytes v (note_of v s) ++ t) rest.0, rw row.1 rest.1)

head_back : (v : Version) (s : List ℕ) → 8 ≤ length s → Bytes s → get_or s 0 0 / 16 ≡ version_number v → s ≡ header v (columns_of s) (count_of s) (draws_of s) ++ drop 8 s
unfolding header columns_of count_of draws_of
head_back v [] l h z = absurd (omega arith)
head_back v (a ∷ r) l h z =
    let rest : Bytes r = bytes_drop 1 (a ∷ r) h in
    let n : List ℕ = be 3 (num 3 r) in
    let d : List ℕ = be 4 (num 4 (drop 3 r)) in
    let second : drop 3 r ≡ d ++ drop 7 r =
    be_num 4 (drop 3 r) (rw (length-drop 3 r) (omega arith)) (bytes_drop 3 r rest) ∙ ap (λ (t : List ℕ). d ++ t) (drop-drop 4 3 r) in
    let first : a ≡ version_number v * 16 + a % 16 = rw (← z) (omega arith) in
    ap₂ (λ (x : ℕ) (t : List ℕ). x ∷ t) first
    (be_num 3 r (omega arith) rest ∙ ap (λ (t : List ℕ). n ++ t) second ∙ sym (append_assoc n d (drop 7 r)))

fits_told : (v : Version) (ns : List Note) → Fits v ns → Each (λ n. Tells v n.origin) ns
fits_told v ns f = each_map (Fit v) (λ n. Tells v n.origin) (λ n t. t.told) ns f

-- bytes that keep the rule are the encoding of what they say, which keeps the rule
chart_back : (s : List ℕ) → Bytes s → ok_chart s ≡ true → (s ≡ encode (version_of s) (columns_of s) (draws_of s) (notes_of (version_of s) (count_of s) (drop 8 s)))
    × Well (version_of s) (columns_of s) (draws_of s) (notes_of (version_of s) (count_of s) (drop 8 s))
unfolding ok_chart ok_head head_tests encode columns_of count_of draws_of
chart_back s h ok =
    let v : Version = version_of s in
    let head = passes (head_tests s) (both (ok_head s) (ok_rows v (columns_of s) 0 (count_of s) (drop 8 s)) ok).0 in
    let long : 8 ≤ length s = leb-true 8 (length s) (head 0) in
    let size : length s ≡ chart_size_in v (count_of s) = eqb-true (length s) (chart_size_in v (count_of s)) (head 4) in
    let rows = rows_are v (columns_of s) 0 (count_of s) (drop 8 s) (rw (length-drop 8 s) (omega arith)) (bytes_drop 8 s h)
    (both (ok_head s) (ok_rows v (columns_of s) 0 (count_of s) (drop 8 s)) ok).1 in
    let count = length_notes_of v (count_of s) (drop 8 s) in (
      rw count
          (head_back v s long h (eqb-true (get_or s 0 0 / 16) (version_number v) (head 1)) ∙ ap (λ (t : List ℕ). header v (columns_of s) (count_of s) (draws_of s) ++ t) rows.0),
      record {
        some_columns = leb-true 1 (columns_of s) (head 2);
        few_columns = leb-true (columns_of s) 9 (head 3);
        draws_fit = num_fits 4 (drop 4 s) (bytes_drop 4 s h);
        notes_fit = rw count (num_fits 3 (drop 1 s) (bytes_drop 1 s h));
        notes_ok = rows.1;
        objects_told = fits_told v (notes_of v (count_of s) (drop 8 s)) (fits_notes v (count_of s) (drop 8 s) (bytes_drop 8 s h));
      },
    )

pub encode_decode : (s : List ℕ) → Bytes s → (c : Score) → decode s ≡ some c
    → (s ≡ encode c.version c.columns c.draws c.notes) × Well c.version c.columns c.draws c.notes
unfolding score_of
encode_decode s h c e = let k = read_score s c e in subst Back k.1 (chart_back s h k.0)
  where
    Back : Score → Type 0
    Back c = (s ≡ encode c.version c.columns c.draws c.notes) × Well c.version c.columns c.draws c.notes

-- so two lists of bytes that are read as the same chart are the same
pub only_encoding : (s t : List ℕ) → Bytes s → Bytes t → (c : Score) → decode s ≡ some c → decode t ≡ some c → s ≡ t
only_encoding s t hs ht c es et = (encode_decode s hs c es).0 ∙ sym (encode_decode t ht c et).0
