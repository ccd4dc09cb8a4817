-- A slider's ends: a host's number above what its field can hold is refused as the field's largest value is. Assumes nothing.
use Rattle.std.specs.Prelude.{Option}
use mathlib.Core.Path.{◌≡◌, refl, sym, ap, ◌∙◌, subst}
use Prim.Native.Nat.{ℕ}
use native.Mathlib.Omega.{arith}
use mathlib.Core.Bool.{Bool, true, false}
use lib.Dec.{eqb}
use lib.Ieee.{Float}
use borrow.Author.Tests.{eqb-true, eqb-false}
use Rattle.model.specs.Limits.{most_repeats, most_spans}
use Rattle.mania.specs.Single.{kind_fits}
use Rattle.announced.specs.declared.Bounds.{Bounds}
use Rattle.announced.specs.declared.Slider.{Slider}
use Rattle.announced.specs.Announced.{facts_of, rest_refusal, ends_refusal}
use Rattle.announced.specs.Laws.{rest_is, small_fields}
use Rattle.object_numbers.specs.Single.{largest8, largest16, saturate8, saturate16}
use Rattle.object_numbers.proofs.Laws.{same_test, same_most, itself, node_test, node_itself}
use Rattle.sumopine.specs.Announced.{slider_of, EndsTold}

module _ (multiplier beat velocity x y start : Float) (sound repeats given node : ℕ) where
  abbrev whole : Slider
  whole = slider_of multiplier beat velocity x y start sound repeats given node

  abbrev cut : Slider
  cut = slider_of multiplier beat velocity x y start (saturate8 sound) (saturate16 repeats) given (saturate8 node)

  abbrev with_fields : ℕ → ℕ → Option ℕ → Slider
  with_fields s r n =
      record { multiplier = multiplier; beat = beat; velocity = velocity; position = record { x = x; y = y }; start = start; sound = s; repeats = r; node = n }

  same_rest : rest_refusal cut ≡ rest_refusal whole
  unfolding kind_fits facts_of
  same_rest = rw (rest_is cut, rest_is whole, same_test sound largest8 16 (omega arith), same_most repeats largest16 most_repeats (omega arith), node_test given node) refl

  same_slider : rest_refusal cut ≡ 0 → cut ≡ whole
  same_slider e =
      let f = small_fields cut e in
      let s : saturate8 sound ≡ sound = itself sound largest8 16 (omega arith) f.0 in
      let r : saturate16 repeats ≡ repeats = itself repeats largest16 most_spans (omega arith) (omega (arith, f.1)) in
      let n = node_itself given node f.2 in
      ap (λ (k : ℕ). with_fields k (saturate16 repeats) cut.node) s ∙ ap (λ (k : ℕ). with_fields sound k cut.node) r ∙ ap (with_fields sound repeats) n

  module _ (r : Bounds Float) (n earliest latest : ℕ) where
    by_rest : (b : Bool) → eqb (rest_refusal cut) 0 ≡ b → EndsTold cut r n earliest latest → EndsTold whole r n earliest latest
    unfolding ends_refusal
    by_rest true e h = subst (λ (s : Slider). EndsTold s r n earliest latest) (same_slider (eqb-true (rest_refusal cut) 0 e)) h
    by_rest false e h =
        let k = eqb-false (rest_refusal cut) 0 e in
        let number : n ≡ rest_refusal cut = h.refusal ∙ rw e refl in
        record {
          refusal = number ∙ same_rest ∙ rw (← same_rest, e) refl;
          from = λ z. absurd (k (sym number ∙ z));
          none = h.none;
        }

    pub told_whole : EndsTold cut r n earliest latest → EndsTold whole r n earliest latest
    told_whole h = by_rest (eqb (rest_refusal cut) 0) refl h
