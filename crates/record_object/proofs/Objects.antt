-- What an object's flags decide, and the rows in which the code checks its fields. Assumes nothing.
use Rattle.std.specs.Prelude.{Some, None, Bool, true, false, cond, eqb}
use Rattle.std.specs.Int.{from_bool}
use mathlib.Core.Path.{◌≡◌, refl, sym, ap, ◌∙◌}
use Prim.Native.Nat.{ℕ, zero, suc, ◌+◌, ◌*◌, ◌^◌, ◌≤◌, ◌<◌}
use native.Mathlib.Omega.{arith}
use mathlib.Core.List.{List, [], ◌∷◌, ◌++◌}
use lib.Ieee.{Float, lt}
use Rattle.bits.specs.Field.{bits, short}
use Rattle.bits.specs.Laws.Fields.{bits_lt, by_flag}
use Rattle.model.specs.Limits.{distance_range}
use Rattle.rules.specs.Numbers as Numbers
use Rattle.record.specs.Layout as At
use Rattle.record.specs.Refusal.{◌gives◌, ◌then◌, field, plain, out64, field_refusal, fields_refusal, f64_at}
use Rattle.record.specs.Object.{node_bit, slider_end, distance_by, node_by, bad_span, span_field, coordinate, distance_fields, node_fields, repeats_field, slider_fields, kind_fields, start_at, object_refusal}
use Rattle.record.specs.Laws.Row.{then_zero, then_assoc, own_two, whole_once, plain_once, fields_append}

-- ---- what a flag decides

pub flag_value : (s : List ℕ) (p : ℕ) → from_bool (eqb (bits s p 1) 1) ≡ bits s p 1
flag_value s p = as_number (eqb (bits s p 1) 1) ∙ sym (by_flag (λ (n : ℕ). n) s p)
  where
    as_number : (b : Bool) → from_bool b ≡ cond b 1 0
    as_number true = refl
    as_number false = refl

pub distance_flag : (s : List ℕ) (p q : ℕ) → distance_by s p (bits s q 1) ≡ cond (eqb (bits s q 1) 1) (Some (f64_at s p)) None
unfolding distance_by
distance_flag s p q = by_flag (distance_by s p) s q

pub node_flag : (s : List ℕ) (p q : ℕ) → node_by s p (bits s q 1) ≡ cond (eqb (bits s q 1) 1) (Some (bits s p 4)) None
unfolding node_by
node_flag s p q = by_flag (node_by s p) s q

pub distance_row : (s : List ℕ) (p q : ℕ)
    → fields_refusal s (distance_fields s p (bits s q 1)) ≡ cond (eqb (bits s q 1) 1) (field_refusal s (field p 64 (out64 s p distance_range) Numbers.object)) 0
unfolding fields_refusal
distance_row s p q = by_flag (λ (b : ℕ). fields_refusal s (distance_fields s p b)) s q ∙ ap (λ (x : ℕ). cond (eqb (bits s q 1) 1) x 0) (then_zero _)

-- a kind that is no circle's or slider's is a duration
pub span_row : (s : List ℕ) (p : ℕ) → fields_refusal s (span_field s p ∷ []) ≡ field_refusal s (span_field s p)
unfolding fields_refusal
span_row s p = then_zero _

pub circle_row : (s : List ℕ) → fields_refusal s [] ≡ 0
unfolding fields_refusal
circle_row s = refl

-- ---- rows: of two fields that can only be not whole, the code checks the end of the second

module _ (s : List ℕ) where
  plain_end : (p w e : ℕ) → p + w ≡ e → field_refusal s (plain p w) ≡ (short s e gives Numbers.field_not_whole)
  plain_end p w e h = then_zero (short s (p + w) gives Numbers.field_not_whole) ∙ ap (λ (x : ℕ). short s x gives Numbers.field_not_whole) h

  -- two such fields, and what follows
  two_plain : (p w q v e r : ℕ) → p + w ≤ e → q + v ≡ e → (short s e gives Numbers.field_not_whole then r) ≡ (field_refusal s (plain p w) then field_refusal s (plain q v) then r)
  two_plain p w q v e r h k = sym (plain_once s p w e r h) ∙ ap (λ (x : ℕ). field_refusal s (plain p w) then x then r) (sym (plain_end q v e k))

  node_row : (m b : ℕ) → b ≤ 1 → (short s (m + 1) gives Numbers.field_not_whole then short s (m + 1 + 4 * b) gives Numbers.field_not_whole) ≡ fields_refusal s (plain m 1 ∷ node_fields (m + 1) b)
  unfolding fields_refusal
  node_row m zero h =
      let e : m + 1 + 4 * 0 ≡ m + 1 = omega arith in
      ap (λ (x : ℕ). short s (m + 1) gives Numbers.field_not_whole then short s x gives Numbers.field_not_whole) e ∙ (whole_once s (m + 1) (m + 1) (omega arith) ∙ sym (then_zero _ ∙ then_zero _))
  node_row m (suc zero) h = simp then_zero
  node_row m (suc (suc b)) h = absurd (omega arith)

  slider_fields_row : (q : ℕ)
      → (field_refusal s (repeats_field s q) then short s (q + At.distance) gives Numbers.field_not_whole then fields_refusal s (distance_fields s (q + At.distance) (bits s (q + At.is_given) 1))
      then short s (node_bit s q + 1) gives Numbers.field_not_whole then short s (slider_end s q) gives Numbers.field_not_whole)
      ≡ fields_refusal s (slider_fields s q)
  unfolding slider_end fields_refusal
  slider_fields_row q =
      let given = distance_fields s (q + At.distance) (bits s (q + At.is_given) 1) in
      let m = node_bit s q in
      let node = plain m 1 ∷ node_fields (m + 1) (bits s m 1) in
      let first = field_refusal s (repeats_field s q) in
      ap (λ (x : ℕ). first then short s (q + At.distance) gives Numbers.field_not_whole then fields_refusal s given then x) (node_row m (bits s m 1) (at_most (bits_lt s m 1)))
      ∙ (ap (λ (x : ℕ). first then short s (q + At.distance) gives Numbers.field_not_whole then x) (sym (fields_append s given node))
      ∙ ap (λ (x : ℕ). first then x then fields_refusal s (given ++ node)) (sym (plain_end (q + At.is_given) 1 (q + At.distance) (omega arith))))
    where
      at_most : {b : ℕ} → b < 2 ^ 1 → b ≤ 1
      at_most h = omega arith

  pub slider_row : (q : ℕ) → fields_refusal s (slider_fields s q)
      ≡ (field_refusal s (repeats_field s q) then short s (q + At.distance) gives Numbers.field_not_whole then fields_refusal s (distance_fields s (q + At.distance) (bits s (q + At.is_given) 1))
      then short s (node_bit s q + 1) gives Numbers.field_not_whole then short s (slider_end s q) gives Numbers.field_not_whole)
  slider_row q = sym (slider_fields_row q)

  object_fields_row : (p : ℕ) (before : Float)
      → (short s (p + At.x) gives Numbers.field_not_whole then field_refusal s (coordinate s (p + At.x)) then field_refusal s (coordinate s (p + At.y)) then field_refusal s (span_field s (p + At.start))
      then lt (start_at s p) before gives Numbers.object then fields_refusal s (kind_fields s (p + At.added) (bits s p 2)))
      ≡ object_refusal s p before
  unfolding object_refusal fields_refusal
  object_fields_row p before =
      let rest = fields_refusal s (kind_fields s (p + At.added) (bits s p 2)) in
      two_plain p 2 (p + At.sound) 4 (p + At.x) _ (omega arith) (omega arith)
      ∙ ap (λ (x : ℕ). field_refusal s (plain p 2) then field_refusal s (plain (p + At.sound) 4) then field_refusal s (coordinate s (p + At.x)) then field_refusal s (coordinate s (p + At.y)) then x)
      (sym (then_assoc (field_refusal s (span_field s (p + At.start))) (lt (start_at s p) before gives Numbers.object) rest)
      ∙ ap (λ (x : ℕ). x then rest) (own_two _ (bad_span s (p + At.start)) (lt (start_at s p) before) Numbers.object))

  pub object_row : (p : ℕ) (before : Float) → object_refusal s p before
      ≡ (short s (p + At.x) gives Numbers.field_not_whole then field_refusal s (coordinate s (p + At.x)) then field_refusal s (coordinate s (p + At.y)) then field_refusal s (span_field s (p + At.start))
      then lt (start_at s p) before gives Numbers.object then fields_refusal s (kind_fields s (p + At.added) (bits s p 2)))
  object_row p before = sym (object_fields_row p before)
