-- A refused record has a number from 1 to 7. Assumes nothing.
use mathlib.Core.Path.{◌≡◌, sym, subst}
use mathlib.Core.Logic.{◌⊎◌, inl, inr}
use Prim.Native.Nat.{ℕ, zero, suc, ◌≤◌}
use native.Mathlib.Omega.{arith}
use mathlib.Core.Bool.{Bool, true, false}
use mathlib.Core.List.{List, [], ◌∷◌}
use lib.Dec.{lit≤}
use Rattle.rules.specs.Each.{Each}
use Rattle.rules.specs.Laws.Each.{each_map}
use Rattle.rules.specs.Numbers as Numbers
use Rattle.record.specs.declared.section.Section.{Section}
use Rattle.record.specs.declared.section.Section.TheVariants.{Breaks, TimingPoints, DifficultyPoints, EffectPoints}
use Rattle.record.specs.Refusal.{◌gives◌, ◌then◌, Field, fields_refusal}
use Rattle.record.specs.Layout as At
use Rattle.record.specs.Header.{counts_of, header_fields, header_refusal}
use Rattle.record.specs.Section.{section_refusal}
use Rattle.record.specs.Object.{objects_refusal}
use Rattle.record.specs.Record.{places_of, lists_refusal, fill_refusal, record_refusal, record_end, song_of, accepted, refused, parsed_by, parse}
use Rattle.record.specs.Fields.{section_fields, objects_fields}
use Rattle.record.proofs.Laws.Ranges.{fit_song}
use Rattle.record.specs.Laws.Refusals.{Gives, header_gives, section_gives, objects_gives, section_is, objects_are}
use Rattle.model.specs.Song.{Song}

-- a row's number is one of its conditions'
row : (a b : ℕ) → a ≤ 7 → b ≤ 7 → (a then b) ≤ 7
unfolding ◌then◌
row zero b h k = k
row (suc a) b h k = h

one : (t : Bool) (n : ℕ) → n ≤ 7 → (t gives n) ≤ 7
unfolding ◌gives◌
one true n h = h
one false n h = omega arith

-- a field whose number is at most 7
abbrev Small : Field → Type 0
Small f = f.own ≤ 7

small : (n : ℕ) (f : Field) → n ≤ 7 → Gives n f → Small f
small n f h (inl e) = omega (arith, e)
small n f h (inr e) = omega (arith, h, e)

small_header : (f : Field) → Gives Numbers.version f ⊎ (Gives Numbers.key_choice f ⊎ Gives Numbers.setting f) → Small f
small_header f (inl g) = small Numbers.version f (lit≤ tt) g
small_header f (inr (inl g)) = small Numbers.key_choice f (lit≤ tt) g
small_header f (inr (inr g)) = small Numbers.setting f (lit≤ tt) g

module _ (s : List ℕ) where
  fields : (fs : List Field) → Each Small fs → fields_refusal s fs ≤ 7
  unfolding fields_refusal
  fields [] h = omega arith
  fields (f ∷ fs) h = row _ _ (row _ _ (one _ Numbers.field_not_whole (lit≤ tt)) h.0) (fields fs h.1)

  header : header_refusal s ≤ 7
  unfolding header_refusal
  header = fields (header_fields s) (each_map _ Small small_header (header_fields s) (header_gives s))

  section : (k : Section) (p n : ℕ) → section_refusal k s p n ≤ 7
  section k p n =
      subst (λ (x : ℕ). x ≤ 7) (sym (section_is s k p n))
      (fields (section_fields k s p n) (each_map (Gives Numbers.break_or_point) Small (λ f g. small Numbers.break_or_point f (lit≤ tt) g) (section_fields k s p n) (section_gives s k p n)))

  all_objects : (p n : ℕ) → objects_refusal s p n ≤ 7
  all_objects p n =
      subst (λ (x : ℕ). x ≤ 7) (sym (objects_are s p n))
      (fields (objects_fields s p n) (each_map (Gives Numbers.object) Small (λ f g. small Numbers.object f (lit≤ tt) g) (objects_fields s p n) (objects_gives s p n)))

  fill : (p : ℕ) → fill_refusal s p ≤ 7
  unfolding fill_refusal
  fill p = one _ Numbers.filling (lit≤ tt)

  record_number : record_refusal s ≤ 7
  unfolding record_refusal lists_refusal
  record_number =
      let n = counts_of s in
      let at = places_of n in
      let lists = row _ _ (section Breaks At.breaks n.breaks) (row _ _ (section TimingPoints at.timing n.timing) (row _ _ (section DifficultyPoints at.difficulty n.difficulty) (section EffectPoints at.effect n.effect))) in
      row _ _ header (row _ _ lists (row _ _ (all_objects at.objects n.objects) (fill (record_end s))))

some_number : (m n : ℕ) (song : Song) → m ≤ 7 → parsed_by m song ≡ refused n → (1 ≤ n) × (n ≤ 7)
some_number zero n song h e = let z : ◌≡◌ {A = ℕ} 0 1 = cc in absurd (omega arith)
some_number (suc m) n song h e = let z : suc m ≡ n = cc in (omega arith, omega arith)

pub refused_number : (s : List ℕ) (n : ℕ) → parse s ≡ refused n → (1 ≤ n) × (n ≤ 7)
unfolding parse
refused_number s n e = some_number (record_refusal s) n (song_of s) (record_number s) e

pub accepted_keys : (s : List ℕ) (g : Song) → parse s ≡ accepted g → g.keys ≤ 9
accepted_keys s g e = (fit_song s g e).keys
