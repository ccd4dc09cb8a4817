-- What a text is read as, is a chart: its notes keep the chart reader's rule, and their times are whole.
-- Assumes nothing.
use Rattle.std.specs.Prelude.{◌≡◌, refl, Bool, true, false, ◌&&◌, cond, List, [], ◌∷◌, leb, ltb, eqb, pos, length, drop, None}
use Rattle.std.proofs.Math.Path.{sym, ap}
use Rattle.std.proofs.Common.{◌∙◌, subst, mul-le-mul_right, add-mul, leb-true, ltb-true}
use Rattle.std.proofs.Math.Option.{Option, none, some, bind, map, some-injective}
use Prim.Native.Nat.{ℕ, zero, suc, ◌+◌, ◌-◌, ◌*◌, ◌/◌, ◌%◌, ◌^◌, ◌≤◌, ◌<◌, min}
use Rattle.std.proofs.Math.Nat.{add-zero, mul-mod_left, mul-pos}
use native.Mathlib.Omega.{arith}
use Rattle.std.specs.Float.Ieee.{binary64, of_int}
use Rattle.std.specs.Float.Ieee.Fits.{of_int-fits}
use Rattle.rules.specs.Each.{Each}
use Rattle.floats.specs.Ticks.{ticks}
use Rattle.floats.specs.Laws.Values.{Sized, sized}
use Rattle.floats.specs.Laws.Integers.{int_value}
use Rattle.model.specs.Limits.{latest_end}
use Rattle.chart.specs.Layout.{most_in_chart}
use Rattle.chart.specs.declared.Version.TheVariants.{One}
use Rattle.chart.specs.declared.Note.{Note}
use Rattle.chart.specs.Time.{time, latest}
use Rattle.chart.specs.Tests.{both, passes}
use Rattle.chart.specs.Chart.{ok_note, ok_notes, note_tests, Tells, Well}
use Rattle.chart.specs.Laws.Times.{ticks_zero, time_to_bits}
use Rattle.chart.specs.Laws.Reader.{note_decided}
use Rattle.chart.specs.Order.{rank}
use Rattle.chart.specs.Written.{circle_ok, hold_ok}
use Rattle.hit_object_lines.specs.Lines.{Line, circle, hold, y_part, circle_part, hold_part, end_part, millisecond, start_of, end_of, is_whole, all_whole}
use Rattle.hit_object_lines.specs.Reading.{is_digit, digits_on, limited, number, starts_with, after, head, hold_on, kind_on, line, column_of, time_of, note_of_line, note_on, notes_on, in_order, fitting, notes_for}
use Rattle.hit_object_lines.specs.Laws.Times.{ticks_of, one_ms}
use Rattle.hit_object_reader.specs.Laws.Back.{Few}

-- ---- the numbers of a line

not_none : {A : Type 0} {a : A} → ◌≡◌ {A = Option A} none (some a) → ⊥
not_none e = let y : ◌≡◌ {A = ℕ} 0 1 = cc in omega arith

limited_few : (p : ℕ × List ℕ) (v : ℕ) (r : List ℕ) → limited p ≡ some (v, r) → v ≤ latest_end
unfolding limited
limited_few p v r e = by_test (leb p.0 latest_end) refl
  where
    by_test : (t : Bool) → leb p.0 latest_end ≡ t → v ≤ latest_end
    by_test true h = let is : ◌≡◌ {A = ℕ × List ℕ} p (v, r) = some-injective p (v, r) (rw h at e) in rw (ap (λ (q : ℕ × List ℕ). q.0) is) at (leb-true p.0 latest_end h)
    by_test false h = absurd (not_none (rw h at e))

number_few : (s : List ℕ) (v : ℕ) (r : List ℕ) → number s ≡ some (v, r) → v ≤ latest_end
unfolding number
number_few [] v r e = absurd (not_none e)
number_few (c ∷ s) v r e = by_zero (eqb c 48) refl
  where
    by_digit : (t : Bool) → cond t (limited (digits_on (c - 48) s)) none ≡ some (v, r) → v ≤ latest_end
    by_digit true f = limited_few (digits_on (c - 48) s) v r f
    by_digit false f = absurd (not_none f)

    by_zero : (t : Bool) → eqb c 48 ≡ t → v ≤ latest_end
    by_zero true h = let is : ◌≡◌ {A = ℕ × List ℕ} (0, s) (v, r) = some-injective (0, s) (v, r) (rw h at e) in let z : 0 ≡ v = ap (λ (q : ℕ × List ℕ). q.0) is in omega arith
    by_zero false h = by_digit (is_digit c) (rw h at e)

-- the step of a bind that came out
step : {A B : Type 0} (o : Option A) (g : A → Option B) (b : B) → bind o g ≡ some b → (a : A) × ((o ≡ some a) × (g a ≡ some b))
unfolding bind
step none g b e = absurd (not_none e)
step (some a) g b e = (a, (refl, e))

mapped : {A B : Type 0} (o : Option A) (g : A → B) (b : B) → map g o ≡ some b → (a : A) × ((o ≡ some a) × (g a ≡ b))
mapped none g b e = absurd (not_none e)
mapped (some a) g b e = (a, (refl, some-injective (g a) b e))

head_few : (s : List ℕ) (x start : ℕ) (r : List ℕ) → head s ≡ some ((x, start), r) → (x ≤ latest_end) × (start ≤ latest_end)
unfolding head
head_few s x start r e =
    let p = step (number s) _ ((x, start), r) e in
    let t = step (after y_part p.0.1) _ ((x, start), r) p.1.1 in
    let q = mapped (number t.0) _ ((x, start), r) t.1.1 in
    let ex : p.0.0 ≡ x = ap (λ (w : (ℕ × ℕ) × List ℕ). w.0.0) q.1.1 in
    let es : q.0.0 ≡ start = ap (λ (w : (ℕ × ℕ) × List ℕ). w.0.1) q.1.1 in
    (rw ex at (number_few s p.0.0 p.0.1 p.1.0), rw es at (number_few t.0 q.0.0 q.0.1 q.1.0))

kind_few : (x start : ℕ) (s : List ℕ) (l : Line) (r : List ℕ) → x ≤ latest_end → start ≤ latest_end → kind_on ((x, start), s) ≡ some (l, r) → Few l
unfolding kind_on hold_on
kind_few x start s l r lx ls e = by_test (starts_with circle_part s) refl
  where
    by_test : (t : Bool) → starts_with circle_part s ≡ t → Few l
    by_test true h = subst Few (ap (λ (w : Line × List ℕ). w.0) (some-injective (circle x start, drop (length circle_part) s) (l, r) (rw h at e))) (lx, ls)
    by_test false h =
        let t = step (after hold_part s) _ (l, r) (rw h at e) in
        let p = step (number t.0) _ (l, r) t.1.1 in
        let u = mapped (after end_part p.0.1) _ (l, r) p.1.1 in
        subst Few (ap (λ (w : Line × List ℕ). w.0) u.1.1) (lx, (ls, number_few t.0 p.0.0 p.0.1 p.1.0))

line_few : (s : List ℕ) (l : Line) (r : List ℕ) → line s ≡ some (l, r) → Few l
unfolding line
line_few s l r e =
    let h = step (head s) kind_on (l, r) e in
    let few = head_few s h.0.0.0 h.0.0.1 h.0.1 h.1.0 in
    kind_few h.0.0.0 h.0.0.1 h.0.1 l r few.0 few.1 h.1.1

-- ---- its note

-- a note that may stand first, with whole times, and does not tell its object
pub record Good (columns : ℕ) (n : Note) : Type 0 where
  pub ok : ok_note columns 0 n ≡ true
  pub whole : is_whole n ≡ true
  pub tells : Tells One n.origin

module _ (k : ℕ) (few : k ≤ latest_end) where
  own_size : Sized (of_int binary64 (pos k))
  own_size = sized (of_int binary64 (pos k)) k 1 (int_value binary64 k (omega arith))

  own_ticks : ticks (of_int binary64 (pos k)) ≡ k * millisecond
  unfolding time_of
  own_ticks = sym (ap ticks (time_to_bits (of_int binary64 (pos k)) (of_int-fits binary64 (pos k)))) ∙ ticks_of k few

up_to : (k : ℕ) → k ≤ latest_end → k * millisecond ≤ latest
unfolding millisecond
up_to k h = mul-le-mul_right (2 ^ 1074) h

module _ (columns x : ℕ) (low : 1 ≤ columns) where
  on_deck : column_of columns x < columns
  unfolding column_of
  on_deck = least (x * columns / 512)
    where
      least : (q : ℕ) → min q (columns - 1) < columns
      least q = omega arith

  good_circle : (start : ℕ) → start ≤ latest_end → Good columns (record { column = column_of columns x; hold = false; origin = None; start = time_of start; duration = 0 })
  unfolding time_of is_whole start_of end_of Tells
  good_circle start few =
      let size : ticks (time (time_of start)) ≡ start * millisecond = ticks_of start few in
      let none : start * millisecond % millisecond ≡ 0 = mul-mod_left start millisecond in
      record {
        ok = circle_ok columns (column_of columns x) None on_deck (of_int binary64 (pos start)) (of_int-fits binary64 (pos start)) (own_size start few) (rw (own_ticks start few) (up_to start few));
        whole = rw (size, ticks_zero, add-zero (start * millisecond), none);
        tells = tt;
      }

  good_hold : (start end : ℕ) → end ≤ latest_end → start < end → Good columns (record { column = column_of columns x; hold = true; origin = None; start = time_of start; duration = time_of (end - start) })
  unfolding time_of is_whole start_of end_of Tells
  good_hold start end few later =
      let first : start ≤ latest_end = omega arith in
      let rest : end - start ≤ latest_end = omega arith in
      let sum : start * millisecond + (end - start) * millisecond ≡ end * millisecond = let e : start + (end - start) ≡ end = omega arith in sym (add-mul start (end - start) millisecond) ∙ ap (λ (k : ℕ). k * millisecond) e in
      let lasting : 0 < (end - start) * millisecond = mul-pos (omega arith) one_ms in
      record {
        ok = hold_ok columns (column_of columns x) None on_deck (of_int binary64 (pos start)) (of_int-fits binary64 (pos start)) (own_size start first)
            (of_int binary64 (pos (end - start))) (of_int-fits binary64 (pos (end - start))) (own_size (end - start) rest) (rw (own_ticks (end - start) rest) lasting)
            (rw (own_ticks start first, own_ticks (end - start) rest, sum) (up_to end few));
        whole = rw (ticks_of start first, ticks_of (end - start) rest, sum, mul-mod_left start millisecond, mul-mod_left end millisecond);
        tells = tt;
      }

good_line : (columns : ℕ) (l : Line) (n : Note) → 1 ≤ columns → Few l → note_of_line columns l ≡ some n → Good columns n
unfolding note_of_line
good_line columns (circle x start) n low few e = subst (Good columns) (some-injective _ n e) (good_circle columns x low start few.1)
good_line columns (hold x start end) n low few e = by_test (ltb start end) refl
  where
    by_test : (t : Bool) → ltb start end ≡ t → Good columns n
    by_test true h = subst (Good columns) (some-injective _ n (rw h at e)) (good_hold columns x low start end few.1.1 (ltb-true start end h))
    by_test false h = absurd (not_none (rw h at e))

good_row : (columns : ℕ) (s : List ℕ) (n : Note) (r : List ℕ) → 1 ≤ columns → note_on columns s ≡ some (n, r) → Good columns n
unfolding note_on
good_row columns s n r low e =
    let p = step (line s) _ (n, r) e in
    let q = mapped (note_of_line columns p.0.0) _ (n, r) p.1.1 in
    let is : q.0 ≡ n = ap (λ (w : Note × List ℕ). w.0) q.1.1 in
    subst (Good columns) is (good_line columns p.0.0 q.0 low (line_few s p.0.0 p.0.1 p.1.0) q.1.0)

good_notes : (k columns : ℕ) (s : List ℕ) (ns : List Note) → 1 ≤ columns → notes_on k columns s ≡ some ns → Each (Good columns) ns
unfolding notes_on
good_notes zero columns [] ns low e = subst (Each (Good columns)) (some-injective [] ns e) tt
good_notes zero columns (c ∷ s) ns low e = absurd (not_none e)
good_notes (suc k) columns [] ns low e = subst (Each (Good columns)) (some-injective [] ns e) tt
good_notes (suc k) columns (c ∷ s) ns low e =
    let p = step (note_on columns (c ∷ s)) _ ns e in
    let q = mapped (notes_on k columns p.0.1) _ ns p.1.1 in
    subst (Each (Good columns)) q.1.1 (good_row columns (c ∷ s) p.0.0 p.0.1 low p.1.0, good_notes k columns p.0.1 q.0 low q.1.0)

-- ---- the chart

all_whole_law : (columns : ℕ) (ns : List Note) → Each (Good columns) ns → all_whole ns ≡ true
unfolding all_whole
all_whole_law columns [] g = refl
all_whole_law columns (n ∷ ns) g = rw (g.0.whole, all_whole_law columns ns g.1)

none_tells : (columns : ℕ) (ns : List Note) → Each (Good columns) ns → Each (λ n. Tells One n.origin) ns
none_tells columns [] g = tt
none_tells columns (n ∷ ns) g = (g.0.tells, none_tells columns ns g.1)

-- in order they may stand one after another
order_ok : (columns last : ℕ) (ns : List Note) → in_order last ns ≡ true → Each (Good columns) ns → ok_notes columns last ns ≡ true
unfolding ok_notes ok_note note_tests in_order
order_ok columns last [] h g = refl
order_ok columns last (n ∷ ns) h g =
    let order = both (leb last (rank n)) (in_order (rank n) ns) h in
    let p = passes (note_tests columns 0 n) g.0.ok in
    let here : ok_note columns last n ≡ true = sym (note_decided columns last n (p 0) (p 1) (p 2) order.0 (p 4)) ∙ p 5 in
    rw (here, order_ok columns (rank n) ns order.1 g.1)

pub made_well : (columns : ℕ) (s : List ℕ) (ns : List Note) → notes_for columns s ≡ some ns → Well One columns 0 ns × (all_whole ns ≡ true)
unfolding notes_for fitting
made_well columns s ns e = by_columns (leb 1 columns && leb columns 9) refl
  where
    by_fit : (ms : List Note) (t : Bool) → in_order 0 ms && leb (length ms) most_in_chart ≡ t → cond t (some ms) none ≡ some ns → (ms ≡ ns) × ((in_order 0 ms ≡ true) × (length ms ≤ most_in_chart))
    by_fit ms true h f = let k = both (in_order 0 ms) (leb (length ms) most_in_chart) h in (some-injective ms ns f, (k.0, leb-true (length ms) most_in_chart k.1))
    by_fit ms false h f = absurd (not_none f)

    by_columns : (t : Bool) → leb 1 columns && leb columns 9 ≡ t → Well One columns 0 ns × (all_whole ns ≡ true)
    by_columns false h = absurd (not_none (rw h at e))
    by_columns true h =
        let c = both (leb 1 columns) (leb columns 9) h in
        let low = leb-true 1 columns c.0 in
        let p = step (notes_on (length s) columns s) _ ns (rw h at e) in
        let f = by_fit p.0 (in_order 0 p.0 && leb (length p.0) most_in_chart) refl p.1.1 in
        let g = subst (Each (Good columns)) f.0 (good_notes (length s) columns s p.0 low p.1.0) in
        let order = rw f.0 at f.1.0 in
        let few = rw f.0 at f.1.1 in
        (record { some_columns = low; few_columns = leb-true columns 9 c.1; draws_fit = omega arith; notes_fit = omega arith; notes_ok = order_ok columns 0 ns order g; objects_told = none_tells columns ns g }, all_whole_law columns ns g)
