-- The notes of a chart and the notes of a text: each kind of list is the other.
-- Assumes nothing.
use Rattle.std.specs.Prelude as Std
use Rattle.std.specs.Prelude.{◌≡◌, refl, Bool, true, false, cond, List, [], ◌∷◌, ◌++◌, map, eqb, length, None, Some}
use Rattle.std.proofs.Math.Path.{sym, ap}
use Rattle.std.proofs.Common.{◌∙◌, ⊎_elim, div-add-mod', add-zero, zero-mul, arith, length-append}
use Rattle.std.proofs.Math.Option
use Rattle.std.proofs.Math.Option.{some, bind}
use Prim.Native.Nat.{ℕ, zero, suc, ◌+◌, ◌-◌, ◌*◌, ◌/◌, ◌%◌, ◌≤◌, ◌<◌}
use borrow.Author.Tests.{lt-ltb, le-leb, ltb-true, eqb-true}
use Rattle.rules.specs.Each.{Each}
use Rattle.floats.specs.Ticks.{ticks}
use Rattle.chart.specs.Layout.{most_in_chart}
use Rattle.chart.specs.declared.Version.{Version}
use Rattle.chart.specs.declared.Version.TheVariants.{One}
use Rattle.chart.specs.declared.Note.{Note}
use Rattle.chart.specs.Time.{time}
use Rattle.chart.specs.Tests.{both, passes, either_way}
use Rattle.chart.specs.Chart.{ok_note, ok_notes, note_tests, lasts, Tells, Well}
use Rattle.chart.specs.Laws.Times.{le_or_lt}
use Rattle.chart.specs.Order.{rank}
use Rattle.hit_object_lines.specs.Lines.{Line, circle, hold, line_text, line_of, millisecond, start_of, end_of, is_whole, all_whole, x_of, chart_lines}
use Rattle.hit_object_lines.specs.Reading.{note_of_line, untold, note_on, notes_on, column_of, time_of, in_order, fitting, notes_for}
use Rattle.hit_object_lines.specs.Laws.Times.{InTime, time_is, few_ms, sum_whole}
use Rattle.hit_object_lines.specs.Laws.Notes.{Standing, Writable, standing, start_in_law, duration_in_law, end_ms, end_few}
use Rattle.hit_object_lines.specs.Laws.Text.{length_circle, length_hold}
use Rattle.hit_object_reader.specs.Laws.Texts.{none_left}
use Rattle.hit_object_reader.specs.Laws.Back.{Few, line_back, column_back, x_few}

-- ---- from a note to its line and back

same_note : (n : Note) {c s d : ℕ} {h : Bool} → c ≡ n.column → h ≡ n.hold → s ≡ n.start → d ≡ n.duration → ◌≡◌ {A = Note} (record { column = c; hold = h; origin = None; start = s; duration = d }) (untold n)
same_note n ec eh es ed = rw (ec, eh, es, ed) refl

-- a whole time has the pattern of its milliseconds
time_back : (b : ℕ) → InTime b → ticks (time b) % millisecond ≡ 0 → time_of (ticks (time b) / millisecond) ≡ b
time_back b h e =
    let k : ℕ = ticks (time b) / millisecond in
    sym (time_is k (few_ms b h) b h.is_time_law (sym (div-add-mod' (ticks (time b)) millisecond) ∙ rw e (add-zero (k * millisecond))))

module _ (columns last : ℕ) (n : Note) (low : 1 ≤ columns) (high : columns ≤ 9) (ok : ok_note columns last n ≡ true) (whole : is_whole n ≡ true) where
  stands : Standing columns n
  stands = standing columns last n ok

  writable : Writable columns n
  writable = record { some_columns = low; stands = stands; whole = whole }

  start_whole : ticks (time n.start) % millisecond ≡ 0
  unfolding is_whole start_of
  start_whole = eqb-true (ticks (time n.start) % millisecond) 0 (both (eqb (start_of n % millisecond) 0) (eqb (end_of n % millisecond) 0) whole).0

  duration_whole : ticks (time n.duration) % millisecond ≡ 0
  unfolding is_whole start_of end_of
  duration_whole =
      sym (sum_whole (ticks (time n.start)) (ticks (time n.duration)) start_whole)
      ∙ eqb-true (end_of n % millisecond) 0 (both (eqb (start_of n % millisecond) 0) (eqb (end_of n % millisecond) 0) whole).1

  start_back : time_of (ticks (time n.start) / millisecond) ≡ n.start
  start_back = time_back n.start (start_in_law columns n writable) start_whole

  duration_back : time_of (ticks (time n.duration) / millisecond) ≡ n.duration
  duration_back = time_back n.duration (duration_in_law columns n writable) duration_whole

  kind_ok : lasts n.hold n.duration ≡ true
  unfolding ok_note note_tests
  kind_ok = passes (note_tests columns last n) ok 4

  some_ms : (d : ℕ) → d % millisecond ≡ 0 → 0 < d → 0 < d / millisecond
  some_ms d e p = ⊎_elim (λ (z : d / millisecond ≤ 0). absurd (zero_ms (omega arith))) (λ q. q) (le_or_lt (d / millisecond) 0)
    where
      zero_ms : d / millisecond ≡ 0 → ⊥
      zero_ms z = let all : d ≡ 0 = sym (div-add-mod' d millisecond) ∙ rw (z, e) (omega (arith, zero-mul millisecond)) in omega arith

  few_line : Few (line_of columns n)
  unfolding line_of start_of
  few_line = by_kind_law n.hold
    where
      x : ℕ
      x = x_of columns n.column

      by_kind_law : (h : Bool) → Few (cond h (hold x (ticks (time n.start) / millisecond) (end_of n / millisecond)) (circle x (ticks (time n.start) / millisecond)))
      by_kind_law true = (x_few columns n.column stands.on_deck high, (few_ms n.start (start_in_law columns n writable), end_few columns n writable))
      by_kind_law false = (x_few columns n.column stands.on_deck high, few_ms n.start (start_in_law columns n writable))

  column_is : column_of columns (x_of columns n.column) ≡ n.column
  column_is = column_back columns n.column stands.on_deck high

  circle_back : n.hold ≡ false → note_of_line columns (line_of columns n) ≡ some (untold n)
  unfolding note_of_line line_of start_of lasts
  circle_back e =
      let none : n.duration ≡ 0 = eqb-true n.duration 0 (sym (ap (λ (h : Bool). lasts h n.duration) e) ∙ kind_ok) in
      ap (λ (h : Bool). note_of_line columns (cond h (hold (x_of columns n.column) (ticks (time n.start) / millisecond) (end_of n / millisecond)) (circle (x_of columns n.column) (ticks (time n.start) / millisecond)))) e
      ∙ ap some (same_note n column_is (sym e) start_back (sym none))

  hold_back : n.hold ≡ true → note_of_line columns (line_of columns n) ≡ some (untold n)
  unfolding note_of_line line_of start_of lasts
  hold_back e =
      let s : ℕ = ticks (time n.start) / millisecond in
      let d : ℕ = ticks (time n.duration) / millisecond in
      let lasting : 0 < ticks (time n.duration) = ltb-true 0 (ticks (time n.duration)) (sym (ap (λ (h : Bool). lasts h n.duration) e) ∙ kind_ok) in
      let above : 0 < d = some_ms (ticks (time n.duration)) duration_whole lasting in
      let end : end_of n / millisecond ≡ s + d = end_ms columns n writable in
      let later : s < end_of n / millisecond = rw end (omega arith) in
      let rest : end_of n / millisecond - s ≡ d = rw end (omega arith) in
      ap (λ (h : Bool). note_of_line columns (cond h (hold (x_of columns n.column) s (end_of n / millisecond)) (circle (x_of columns n.column) s))) e
      ∙ rw (lt-ltb s (end_of n / millisecond) later) (ap some (same_note n column_is (sym e) start_back (ap time_of rest ∙ duration_back)))

  note_back : note_of_line columns (line_of columns n) ≡ some (untold n)
  note_back = ⊎_elim hold_back circle_back (either_way n.hold)

  pub row_back : (r : List ℕ) → note_on columns (line_text (line_of columns n) ++ r) ≡ some (untold n, r)
  unfolding note_on bind
  row_back r = rw (line_back (line_of columns n) r few_line, note_back)

line_long : (l : Line) → 0 < length (line_text l)
line_long (circle x s) = omega (arith, length_circle x s)
line_long (hold x s e) = omega (arith, length_hold x s e)

row_step : (k columns : ℕ) (s : List ℕ) (n : Note) (r : List ℕ) → 0 < length s → note_on columns s ≡ some (n, r) → notes_on (suc k) columns s ≡ Option.map (λ ns. n ∷ ns) (notes_on k columns r)
unfolding notes_on bind
row_step k columns [] n r l e = absurd (omega arith)
row_step k columns (c ∷ s) n r l e = rw e

notes_back : (columns last : ℕ) (ns : List Note) → 1 ≤ columns → columns ≤ 9 → ok_notes columns last ns ≡ true → all_whole ns ≡ true
    → (k : ℕ) → length (chart_lines columns ns) ≤ k → notes_on k columns (chart_lines columns ns) ≡ some (map untold ns)
unfolding ok_notes all_whole chart_lines
notes_back columns last [] low high ok whole k l = none_left columns k
notes_back columns last (n ∷ ns) low high ok whole zero l =
    absurd (omega (arith, line_long (line_of columns n), length-append (line_text (line_of columns n)) (chart_lines columns ns)))
notes_back columns last (n ∷ ns) low high ok whole (suc k) l =
    let here = both (ok_note columns last n) _ ok in
    let own = both (is_whole n) (all_whole ns) whole in
    let line : List ℕ = line_text (line_of columns n) in
    let sizes = length-append line (chart_lines columns ns) in
    let long = line_long (line_of columns n) in
    row_step k columns (line ++ chart_lines columns ns) (untold n) (chart_lines columns ns) (omega arith) (row_back columns last n low high here.0 own.0 (chart_lines columns ns))
    ∙ ap (Option.map (λ ms. untold n ∷ ms)) (notes_back columns (rank n) ns low high here.1 own.1 k (omega arith))

-- notes of a chart are in order
ok_in_order : (columns last : ℕ) (ns : List Note) → ok_notes columns last ns ≡ true → in_order last (map untold ns) ≡ true
unfolding ok_notes ok_note note_tests in_order rank
ok_in_order columns last [] ok = refl
ok_in_order columns last (n ∷ ns) ok =
    let here = both (ok_note columns last n) (ok_notes columns (rank n) ns) ok in
    rw (passes (note_tests columns last n) here.0 3, ok_in_order columns (rank n) ns here.1)

length_map : {A B : Type 0} (f : A → B) (xs : List A) → length (map f xs) ≡ length xs
length_map f [] = refl
length_map f (x ∷ xs) = ap suc (length_map f xs)

pub length_untold : (ns : List Note) → length (map untold ns) ≡ length ns
length_untold ns = length_map untold ns

-- a note of version 1 has no object to lose
same_origin : (o : Std.Option ℕ) → Tells One o → None ≡ o
unfolding Tells
same_origin None t = refl
same_origin (Some i) t = absurd t

pub untold_same : (ns : List Note) → Each (λ n. Tells One n.origin) ns → map untold ns ≡ ns
untold_same [] t = refl
untold_same (n ∷ ns) t =
    let here : untold n ≡ n = ap (λ (o : Std.Option ℕ). record { column = n.column; hold = n.hold; origin = o; start = n.start; duration = n.duration }) (same_origin n.origin t.0) in
    rw (here, untold_same ns t.1)

-- the notes of a chart, with whole times, are but for their objects those of their lines
pub back : (v : Version) (columns draws : ℕ) (ns : List Note) → Well v columns draws ns → all_whole ns ≡ true → notes_for columns (chart_lines columns ns) ≡ some (map untold ns)
unfolding notes_for bind fitting
back v columns draws ns w whole =
    rw (le-leb 1 columns w.some_columns, le-leb columns 9 w.few_columns)
    (rw (notes_back columns 0 ns w.some_columns w.few_columns w.notes_ok whole (length (chart_lines columns ns)) (omega arith))
    (rw (ok_in_order columns 0 ns w.notes_ok, length_untold ns, le-leb (length ns) most_in_chart (omega (arith, w.notes_fit)))))
