-- A slider's notes in whole milliseconds: when two of them share no lane. Assumes nothing.
use Rattle.std.specs.Prelude.{if◌then◌else◌}
use mathlib.Core.Path.{◌≡◌, refl, sym, ap, ◌∙◌, subst}
use Prim.Native.Nat.{ℕ, ◌*◌, ◌/◌, ◌^◌, ◌≤◌, ◌<◌}
use native.Mathlib.Nat.{mul-div_cancel, mul-one, mul_right_comm, mul-lt-mul_of_pos_right, le_trans}
use native.Mathlib.Omega.{arith}
use mathlib.Core.Bool.{Bool, true, false}
use mathlib.Core.List.{List, [], ◌∷◌, ◌++◌, map, append-nil, append_assoc}
use lib.ListN.{length}
use lib.Dec.{eqb}
use lib.Pow.{pow_pos}
use lib.Ieee.{Float, nan, inf, fin, up, down, binary64, round, of_int}
use lib.Ieee.Fits.{down_pos}
use lib.Ieee.Exact.{HasValue}
use lib.Ieee.Back.{round_whole}
use borrow.Author.Tests.{eq-eqb}
use Rattle.floats.specs.Ticks.{ticks}
use Rattle.chart.specs.Lanes.{extent_of, Covers, Apart}
use Rattle.mania.specs.declared.Note.{Note}
use Rattle.mania.specs.declared.SliderNote.{SliderNote}
use Rattle.mania.specs.declared.PathObjectPatternGenerator.{PathObjectPatternGenerator}
use Rattle.mania.specs.Steps.{double#}
use Rattle.mania.specs.Made.{Made, circle}
use Rattle.mania.specs.Pattern.{Pattern, empty, put}
use Rattle.mania.specs.PathObject.{note_of, others, ending, split}
use Rattle.mania.specs.Demand.{extent, Each, EveryTwo, Lanes}
use Rattle.mania.proofs.Makes.{two_map}

-- ---- a whole number's instant

scaled : (a n d k : ℕ) → a * 1 ≡ n * d → 0 < d → a * k / d ≡ n * k
scaled a n d k e h =
    ap (λ (x : ℕ). x * k / d) (sym (mul-one a) ∙ e) ∙ ap (λ (x : ℕ). x / d) (mul_right_comm n d k) ∙ mul-div_cancel (n * k) h

value_instant : (x : Float) (n : ℕ) → HasValue x false n 1 → ticks x ≡ n * 2 ^ 1074
unfolding ticks
value_instant nan n h = absurd h
value_instant (inf s) n h = absurd h
value_instant (fin s m e) n h = scaled (m * up e) n (down e) (2 ^ 1074) h.1 (down_pos e)

pub whole_instant : (n : ℕ) → n ≤ 2 ^ 53 → ticks (double# n) ≡ n * 2 ^ 1074
unfolding of_int
whole_instant n h = value_instant (round binary64 false n 1) n (round_whole binary64 false n h)

-- ---- two bars

-- two bars on one column are circles, the first one earlier
abbrev pub Off : SliderNote → SliderNote → Type 0
Off a b = a.column ≡ b.column → (a.start ≡ a.end) × (b.start ≡ b.end) × (a.start < b.start) × (b.start ≤ 2 ^ 53)

pub note_column_law : (b : SliderNote) → (note_of b).column ≡ b.column
unfolding note_of circle
note_column_law b = go (eqb b.start b.end)
  where
    go : (t : Bool) → (if t then circle b.column (double# b.start) else record { column = b.column; hold = true; start = double# b.start; duration = lib.Ieee.sub binary64 (double# b.end) (double# b.start) }).column ≡ b.column
    go true = refl
    go false = refl

note_circle : (b : SliderNote) → b.start ≡ b.end → note_of b ≡ circle b.column (double# b.start)
unfolding note_of
note_circle b e = rw (eq-eqb b.start b.end e)

covers_at : (c : ℕ) (x : Float) (t : ℕ) → Covers (extent (circle c x)) t → t ≡ ticks x
unfolding Covers circle extent_of
covers_at c x t h = omega (arith, h.0, h.1)

pub ApartBars : SliderNote → SliderNote → Type 0
ApartBars a b = Apart (extent (note_of a)) (extent (note_of b))

-- circles at two times
at_two : (a b : SliderNote) → a.start ≡ a.end → b.start ≡ b.end → a.start < b.start → b.start ≤ 2 ^ 53
    → (t : ℕ) → Covers (extent (note_of a)) t → Covers (extent (note_of b)) t → ⊥
at_two a b ea eb l h t ca cb =
    let ta : t ≡ a.start * 2 ^ 1074 = covers_at a.column (double# a.start) t (subst (λ (n : Note). Covers (extent n) t) (note_circle a ea) ca) ∙ whole_instant a.start (le_trans (before a.start b.start l) h) in
    let tb : t ≡ b.start * 2 ^ 1074 = covers_at b.column (double# b.start) t (subst (λ (n : Note). Covers (extent n) t) (note_circle b eb) cb) ∙ whole_instant b.start h in
    no t (a.start * 2 ^ 1074) (b.start * 2 ^ 1074) ta tb (mul-lt-mul_of_pos_right l (pow_pos 1074))
  where
    before : (x y : ℕ) → x < y → x ≤ y
    before x y l = omega arith

    no : (t x y : ℕ) → t ≡ x → t ≡ y → x < y → ⊥
    no t x y p q l = omega arith

pub off_apart : (a b : SliderNote) → Off a b → ApartBars a b
unfolding ApartBars Apart extent_of
off_apart a b h e t ca cb =
    let k = h (sym (note_column_law a) ∙ e ∙ note_column_law b) in
    at_two a b k.0 k.1 k.2 k.3 t ca cb

pub apart_sym : (a b : SliderNote) → ApartBars a b → ApartBars b a
unfolding ApartBars Apart extent_of
apart_sym a b h e t cb ca = h (sym e) t ca cb

-- ---- the split: the bars that do not end at the slider's end, and then the others

unfoldable pub kept : ℕ → List SliderNote → List SliderNote
kept end [] = []
kept end (b ∷ bs) = if eqb b.end end then b ∷ kept end bs else kept end bs

pub ending_kept : (end : ℕ) (bs : List SliderNote) (p : Pattern SliderNote) → (ending end bs p).notes ≡ p.notes ++ kept end bs
unfolding ending kept put
ending_kept end [] p = sym (append-nil p.notes)
ending_kept end (b ∷ bs) p = go (eqb b.end end) (ending_kept end bs)
  where
    go : (t : Bool) → ((q : Pattern SliderNote) → (ending end bs q).notes ≡ q.notes ++ kept end bs)
        → (ending end bs (if t then put b b.column p else p)).notes ≡ p.notes ++ (if t then b ∷ kept end bs else kept end bs)
    go true h = h (put b b.column p) ∙ append_assoc p.notes (b ∷ []) (kept end bs)
    go false h = h p

each_insert : {A : Type 0} (P : A → Type 0) (xs ys : List A) (b : A) → Each P (xs ++ ys) → P b → Each P (xs ++ b ∷ ys)
each_insert P [] ys b h g = (g, h)
each_insert P (x ∷ xs) ys b h g = (h.0, each_insert P xs ys b h.1 g)

two_insert : (xs ys : List SliderNote) (b : SliderNote) → EveryTwo ApartBars (xs ++ ys) → Each (ApartBars b) (xs ++ ys) → EveryTwo ApartBars (xs ++ b ∷ ys)
two_insert [] ys b h g = (g, h)
two_insert (x ∷ xs) ys b h g = (each_insert (ApartBars x) xs ys b h.0 (apart_sym b x g.0), two_insert xs ys b h.1 g.1)

each_split : (P : SliderNote → Type 0) (end : ℕ) (bs : List SliderNote) → Each P bs → Each P (others end bs ++ kept end bs)
unfolding others kept
each_split P end [] h = tt
each_split P end (b ∷ bs) h = go (eqb b.end end) (each_split P end bs h.1)
  where
    go : (t : Bool) → Each P (others end bs ++ kept end bs)
        → Each P ((if t then others end bs else b ∷ others end bs) ++ (if t then b ∷ kept end bs else kept end bs))
    go true k = each_insert P (others end bs) (kept end bs) b k h.0
    go false k = (h.0, k)

two_split : (end : ℕ) (bs : List SliderNote) → EveryTwo ApartBars bs → EveryTwo ApartBars (others end bs ++ kept end bs)
unfolding others kept
two_split end [] h = tt
two_split end (b ∷ bs) h = go (eqb b.end end) (two_split end bs h.1) (each_split (ApartBars b) end bs h.0)
  where
    go : (t : Bool) → EveryTwo ApartBars (others end bs ++ kept end bs) → Each (ApartBars b) (others end bs ++ kept end bs)
        → EveryTwo ApartBars ((if t then others end bs else b ∷ others end bs) ++ (if t then b ∷ kept end bs else kept end bs))
    go true k m = two_insert (others end bs) (kept end bs) b k m
    go false k m = (m, k)

each_notes : (a : SliderNote) (bs : List SliderNote) → Each (ApartBars a) bs → Each (λ m. Apart (extent (note_of a)) (extent m)) (map note_of bs)
unfolding ApartBars
each_notes a [] h = tt
each_notes a (b ∷ bs) h = (h.0, each_notes a bs h.1)

two_notes_law : (bs : List SliderNote) → EveryTwo ApartBars bs → Lanes (map note_of bs)
two_notes_law [] h = tt
two_notes_law (b ∷ bs) h = (each_notes b bs h.0, two_notes_law bs h.1)

pub split_lanes : (g : PathObjectPatternGenerator) (p : Pattern SliderNote) → EveryTwo Off p.notes → Lanes (split g p).notes
unfolding split empty
split_lanes g p h = go (eqb (length p.notes) 1)
  where
    bars : EveryTwo ApartBars p.notes
    bars = two_map Off ApartBars off_apart p.notes h

    moved : EveryTwo ApartBars (others g.end p.notes ++ (ending g.end p.notes empty).notes)
    moved = subst (λ (xs : List SliderNote). EveryTwo ApartBars (others g.end p.notes ++ xs)) (sym (ending_kept g.end p.notes empty)) (two_split g.end p.notes bars)

    alone : Made
    alone = record { notes = map note_of p.notes; mask = p.mask; last = p.last; stair = g.stair }

    parted : Made
    parted =
        let q = ending g.end p.notes empty in
        record { notes = map note_of (others g.end p.notes ++ q.notes); mask = q.mask; last = q.last; stair = g.stair }

    go : (t : Bool)
        → Lanes (if t then alone else parted).notes
    go true = two_notes_law p.notes bars
    go false = two_notes_law (others g.end p.notes ++ (ending g.end p.notes empty).notes) moved

-- ---- what holds of each

each_noted : (P : Note → Type 0) (bs : List SliderNote) → Each (λ b. P (note_of b)) bs → Each P (map note_of bs)
each_noted P [] h = tt
each_noted P (b ∷ bs) h = (h.0, each_noted P bs h.1)

pub split_each : (g : PathObjectPatternGenerator) (P : Note → Type 0) (p : Pattern SliderNote) → Each (λ b. P (note_of b)) p.notes → Each P (split g p).notes
unfolding split empty
split_each g P p h = go (eqb (length p.notes) 1)
  where
    moved : Each (λ b. P (note_of b)) (others g.end p.notes ++ (ending g.end p.notes empty).notes)
    moved = subst (λ (xs : List SliderNote). Each (λ b. P (note_of b)) (others g.end p.notes ++ xs)) (sym (ending_kept g.end p.notes empty)) (each_split (λ b. P (note_of b)) g.end p.notes h)

    alone : Made
    alone = record { notes = map note_of p.notes; mask = p.mask; last = p.last; stair = g.stair }

    parted : Made
    parted =
        let q = ending g.end p.notes empty in
        record { notes = map note_of (others g.end p.notes ++ q.notes); mask = q.mask; last = q.last; stair = g.stair }

    go : (t : Bool) → Each P (if t then alone else parted).notes
    go true = each_noted P p.notes h
    go false = each_noted P (others g.end p.notes ++ (ending g.end p.notes empty).notes) moved
