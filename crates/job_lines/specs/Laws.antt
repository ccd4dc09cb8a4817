-- What the writer's answer says of the lines. Assumes nothing.
use Rattle.std.specs.Prelude.{◌≡◌, Bool, cond, drop}
use Rattle.std.proofs.Math.Path.{refl, sym, ap}
use Rattle.std.proofs.Common.{◌∙◌, div-le_self, arith, length-append}
use Rattle.std.proofs.Math.Bool.{true, false}
use mathlib.Core.List.{List, [], ◌∷◌}
use Rattle.std.proofs.Math.Option.{Option, none, some}
use Prim.Native.Nat.{ℕ, ◌+◌, ◌-◌, ◌*◌, ◌/◌, ◌≤◌, ◌<◌}
use Rattle.std.proofs.Math.Dec.{leb}
use Rattle.std.proofs.Math.ListN.{length}
use borrow.Author.Tests.{leb-true, leb-false}
use Rattle.rules.specs.Numbers as Numbers
use Rattle.floats.specs.Whole.{above}
use Rattle.floats.specs.Ticks.{ticks}
use Rattle.model.specs.Limits.{latest_end}
use Rattle.chart.specs.declared.Note.{Note}
use Rattle.chart.specs.Time.{time}
use Rattle.chart.specs.Tests.{both, passes}
use Rattle.chart.specs.Bytes.{splice}
use Rattle.chart.specs.Order.{rank}
use Rattle.chart.specs.Chart.{Score, decode, draws_of, ok_chart, ok_head, ok_rows, ok_note, ok_notes, head_tests, version_of, columns_of, count_of, score_of}
use Rattle.chart.specs.Laws.Reader.{read_score, notes_ok, notes_room}
use Rattle.text.specs.Laws.{decimal_most}
use Rattle.chart_text.specs.Text.{refusal_line}
use Rattle.hit_object_lines.specs.Lines.{circle, hold, Outcome, refused, written, stored, line_text, line_of, x_of, start_of, end_of, millisecond, is_whole, all_whole, chart_lines, writing, writing_of, writing_notes}
use Rattle.hit_object_lines.specs.Laws.Times.{few_ms}
use Rattle.hit_object_lines.specs.Laws.Notes.{Writable, standing, start_in_law, end_few}
use Rattle.hit_object_lines.specs.Laws.Text.{length_head, length_circle, length_hold}
use Rattle.job_lines.specs.Printed.{lines_of, lines_text}

-- ---- how long the lines are

module _ (x start end : ℕ) (lx : x ≤ latest_end) (ls : start ≤ latest_end) where
  circle_most : length (line_text (circle x start)) ≤ 52
  circle_most = omega (arith, length_circle x start, length_head x start, decimal_most x (omega arith), decimal_most start (omega arith))

  hold_most : end ≤ latest_end → length (line_text (hold x start end)) ≤ 52
  hold_most le = omega (arith, length_hold x start end, length_head x start, decimal_most x (omega arith), decimal_most start (omega arith), decimal_most end (omega arith))

x_most : (columns column : ℕ) → column < columns → columns ≤ 9 → x_of columns column ≤ latest_end
unfolding x_of above
x_most columns column h few = small ((column * 512 + (columns - 1)) / columns) (div-le_self (column * 512 + (columns - 1)) columns)
  where
    small : (x : ℕ) → x ≤ column * 512 + (columns - 1) → x ≤ latest_end
    small x l = omega arith

line_most : (columns last : ℕ) (n : Note) → 0 < columns → columns ≤ 9 → ok_note columns last n ≡ true → is_whole n ≡ true → length (line_text (line_of columns n)) ≤ 52
unfolding line_of start_of
line_most columns last n low few ok whole = by_kind_law n.hold
  where
    w : Writable columns n
    w = record { some_columns = low; stands = standing columns last n ok; whole = whole }

    x : ℕ
    x = x_of columns n.column

    s : ℕ
    s = ticks (time n.start) / millisecond

    lx : x ≤ latest_end
    lx = x_most columns n.column w.stands.on_deck few

    by_kind_law : (h : Bool) → length (line_text (cond h (hold x s (end_of n / millisecond)) (circle x s))) ≤ 52
    by_kind_law true = hold_most x s (end_of n / millisecond) lx (few_ms n.start (start_in_law columns n w)) (end_few columns n w)
    by_kind_law false = circle_most x s 0 lx (few_ms n.start (start_in_law columns n w))

lines_most : (columns last : ℕ) (ns : List Note) → 0 < columns → columns ≤ 9 → ok_notes columns last ns ≡ true → all_whole ns ≡ true → length (chart_lines columns ns) ≤ 52 * length ns
unfolding ok_notes all_whole chart_lines
lines_most columns last [] low few ok whole = omega arith
lines_most columns last (n ∷ ns) low few ok whole =
    let here = both (ok_note columns last n) _ ok in
    let own = both (is_whole n) (all_whole ns) whole in
    omega (arith, length-append (line_text (line_of columns n)) (chart_lines columns ns), line_most columns last n low few here.0 own.0, lines_most columns (rank n) ns low few here.1 own.1)

chart_most : (s : List ℕ) (c : Score) → decode s ≡ some c → all_whole c.notes ≡ true → length (chart_lines c.columns c.notes) ≤ 4 * length s
unfolding ok_chart ok_head head_tests score_of
chart_most s c e whole =
    let k = read_score s c e in
    let head = (both (ok_head s) (ok_rows (version_of s) (columns_of s) 0 (count_of s) (drop 8 s)) k.0).0 in
    let tests = passes (head_tests s) head in
    let columns : columns_of s ≡ c.columns = ap (λ (t : Score). t.columns) k.1 in
    let low : 0 < c.columns = rw columns at (leb-true 1 (columns_of s) (tests 2)) in
    let few : c.columns ≤ 9 = rw columns at (leb-true (columns_of s) 9 (tests 3)) in
    let most = lines_most c.columns 0 c.notes low few (notes_ok s c e) whole in
    omega (arith, most, notes_room s c e)

-- ---- the writer's answer

abbrev Result : Type 0
Result = Outcome × List ℕ

no_number : {n k : ℕ} → refused n ≡ written k → ⊥
no_number e = let y : ◌≡◌ {A = ℕ} 0 1 = cc in omega arith

-- where `k` bytes were written, they are the lines
pub record Wrote (chart text : List ℕ) (k : ℕ) : Type 0 where
  pub long : k ≡ length (lines_text chart)
  pub within : k ≤ length text
  pub bytes : (writing chart text).1 ≡ splice text 0 (lines_text chart)

-- a refusal: its line is the text, and nothing was written
pub record Left (chart text : List ℕ) (n : ℕ) : Type 0 where
  pub line : lines_text chart ≡ refusal_line n 0 (draws_of chart)
  pub bytes : (writing chart text).1 ≡ text

module _ (chart text : List ℕ) where
  pub wrote : (k : ℕ) → (writing chart text).0 ≡ written k → Wrote chart text k
  unfolding writing writing_of writing_notes stored lines_text lines_of
  wrote k e = by_score (decode chart) refl
    where
      by_room : (c : Score) → decode chart ≡ some c → all_whole c.notes ≡ true → (t : Bool) → leb (length (chart_lines c.columns c.notes)) (length text) ≡ t → Wrote chart text k
      by_room c is whole true fits =
          let lines : List ℕ = chart_lines c.columns c.notes in
          let all : writing chart text ≡ (written (length lines), splice text 0 lines) = rw (is) (rw (whole, fits)) in
          let own : lines_text chart ≡ lines = rw is (rw whole) in
          let size : written (length lines) ≡ written k = sym (ap (λ (r : Result). r.0) all) ∙ e in
          let same : length lines ≡ k = cc in
          record { long = sym same ∙ ap length (sym own); within = omega (arith, same, leb-true (length lines) (length text) fits); bytes = ap (λ (r : Result). r.1) all ∙ ap (splice text 0) (sym own) }
      by_room c is whole false fits =
          let all : writing chart text ≡ (refused Numbers.text_too_short, text) = rw is (rw (whole, fits)) in
          absurd (no_number (sym (ap (λ (r : Result). r.0) all) ∙ e))

      by_whole : (c : Score) → decode chart ≡ some c → (t : Bool) → all_whole c.notes ≡ t → Wrote chart text k
      by_whole c is true whole = by_room c is whole (leb (length (chart_lines c.columns c.notes)) (length text)) refl
      by_whole c is false whole =
          let all : writing chart text ≡ (refused Numbers.not_whole, text) = rw is (rw whole) in
          absurd (no_number (sym (ap (λ (r : Result). r.0) all) ∙ e))

      by_score : (o : Option Score) → decode chart ≡ o → Wrote chart text k
      by_score none is = let all : writing chart text ≡ (refused Numbers.broken_chart, text) = rw is in absurd (no_number (sym (ap (λ (r : Result). r.0) all) ∙ e))
      by_score (some c) is = by_whole c is (all_whole c.notes) refl

  pub left : (n : ℕ) → 4 * length chart ≤ length text → (writing chart text).0 ≡ refused n → Left chart text n
  unfolding writing writing_of writing_notes stored lines_text lines_of
  left n room e = by_score (decode chart) refl
    where
      told : (m : ℕ) → writing chart text ≡ (refused m, text) → lines_text chart ≡ refusal_line m 0 (draws_of chart) → Left chart text n
      told m all own =
          let number : refused m ≡ refused n = sym (ap (λ (r : Result). r.0) all) ∙ e in
          let same : m ≡ n = cc in
          record { line = own ∙ ap (λ (k : ℕ). refusal_line k 0 (draws_of chart)) same; bytes = ap (λ (r : Result). r.1) all }

      by_room : (c : Score) → decode chart ≡ some c → all_whole c.notes ≡ true → (t : Bool) → leb (length (chart_lines c.columns c.notes)) (length text) ≡ t → Left chart text n
      by_room c is whole true fits =
          let lines : List ℕ = chart_lines c.columns c.notes in
          let all : writing chart text ≡ (written (length lines), splice text 0 lines) = rw is (rw (whole, fits)) in
          absurd (no_number (sym e ∙ ap (λ (r : Result). r.0) all))
      by_room c is whole false fits = absurd (omega (arith, leb-false (length (chart_lines c.columns c.notes)) (length text) fits, chart_most chart c is whole))

      by_whole : (c : Score) → decode chart ≡ some c → (t : Bool) → all_whole c.notes ≡ t → Left chart text n
      by_whole c is true whole = by_room c is whole (leb (length (chart_lines c.columns c.notes)) (length text)) refl
      by_whole c is false whole = told Numbers.not_whole (rw is (rw whole)) (rw is (rw whole))

      by_score : (o : Option Score) → decode chart ≡ o → Left chart text n
      by_score none is = told Numbers.broken_chart (rw is) (rw is)
      by_score (some c) is = by_whole c is (all_whole c.notes) refl
