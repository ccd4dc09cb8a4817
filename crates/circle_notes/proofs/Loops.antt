-- The steps of the loops over notes, as the code takes them, and what holds at each loop's head. Assumes nothing.
use mathlib.Core.Path.{◌≡◌, ap, ◌∙◌}
use Prim.Native.Nat.{ℕ, suc, ◌+◌, ◌-◌, ◌*◌, ◌/◌, ◌≤◌, ◌<◌}
use native.Mathlib.Numerals.{add-one}
use native.Mathlib.Omega.{arith}
use mathlib.Core.List.{List}
use lib.Bits.{bit_or}
use lib.ListN.{length}
use Rattle.rules.specs.Rule.{◌>>=◌}
use Rattle.random.specs.Play.{Answer, found, play, on}
use Rattle.random.specs.declared.Draws.{Draws}
use Rattle.mania.specs.declared.Note.{Note}
use Rattle.mania.specs.declared.HitObjectPatternGenerator.{HitObjectPatternGenerator}
use Rattle.mania.specs.declared.Next.{Next}
use Rattle.mania.specs.declared.Next.TheVariants.{Draw}
use Rattle.mania.specs.Pattern.{Pattern}
use Rattle.mania.specs.PatternGenerator.{random_start, find_available_column}
use Rattle.mania.specs.HitObject.{add_note, add_one, add_each, add_random, add_pair, add_mirrored, next_of}
use Rattle.pattern.specs.Answers.{pattern}
use Rattle.circle_notes.specs.Answers.{circle_at}
use Rattle.pattern.specs.declared.Pattern as Lent

-- ---- the columns of the previous pattern

module _ (g : HitObjectPatternGenerator) (to : ℕ → ℕ) (i : ℕ) (p : Pattern Note) (d : Draws) where
  pub each_more : i < g.columns → (c : ℕ) → c ≡ to i
      → on (add_each g to (g.columns - i) i p) d ≡ on (add_one g i c p >>= (λ q. add_each g to (g.columns - (i + 1)) (i + 1) q)) d
  unfolding add_each
  each_more h c j =
      let e : g.columns - i ≡ suc (g.columns - (i + 1)) = omega arith in
      ap (λ (k : ℕ). on (add_each g to k i p) d) e ∙ rw (← j, add-one i)

  pub each_end : g.columns ≤ i → on (add_each g to (g.columns - i) i p) d ≡ found p d
  unfolding add_each play
  each_end h = let e : g.columns - i ≡ 0 = omega arith in rw e

-- ---- random notes

module _ (g : HitObjectPatternGenerator) (barred n c : ℕ) (p : Pattern Note) (d : Draws) where
  pub random_more : 0 < n → (how : Next) → how ≡ next_of g → (low : ℕ) → low ≡ random_start g.columns
      → on (add_random g barred n c p) d
      ≡ on (find_available_column how g.columns c low g.columns (bit_or p.mask barred) >>= (λ e. add_note g e p >>= (λ q. add_random g barred (n - 1) e q))) d
  unfolding add_random
  random_more h how i low j =
      let e : n ≡ suc (n - 1) = omega arith in
      ap (λ (k : ℕ). on (add_random g barred k c p) d) e ∙ rw (← i, ← j)

  pub random_end : n ≤ 0 → on (add_random g barred n c p) d ≡ found p d
  unfolding add_random play
  random_end h = let e : n ≡ 0 = omega arith in rw e

-- at the loop's head: with the notes that are left at most 6, the next column on the deck, and the rest of the rule comes to what the whole comes to
pub record Going (g : HitObjectPatternGenerator) (barred size : ℕ) (words : List ℕ) (rest : Draws) (p : Lent.Pattern) (at left : ℕ) (whole : Answer ℕ (Pattern Note)) : Type 0 where
  pub same : length words ≡ size
  pub many : p.count + left ≤ 6
  pub fine : at < g.columns
  pub goes : on (add_random g barred left at (pattern (circle_at g.start) words p)) rest ≡ whole

-- ---- mirrored notes

module _ (g : HitObjectPatternGenerator) (n c : ℕ) (p : Pattern Note) (d : Draws) where
  pub mirrored_more : 0 < n → (low : ℕ) → low ≡ random_start g.columns
      → on (add_mirrored g n c p) d
      ≡ on (find_available_column Draw g.columns c low (g.columns / 2) p.mask >>= (λ e. add_pair g e p >>= (λ q. add_mirrored g (n - 1) e q))) d
  unfolding add_mirrored
  mirrored_more h low j =
      let e : n ≡ suc (n - 1) = omega arith in
      ap (λ (k : ℕ). on (add_mirrored g k c p) d) e ∙ rw (← j)

  pub mirrored_end : n ≤ 0 → on (add_mirrored g n c p) d ≡ found p d
  unfolding add_mirrored play
  mirrored_end h = let e : n ≡ 0 = omega arith in rw e

-- at the loop's head, as `Going`
pub record Mirroring (g : HitObjectPatternGenerator) (size : ℕ) (words : List ℕ) (rest : Draws) (p : Lent.Pattern) (at left : ℕ) (whole : Answer ℕ (Pattern Note)) : Type 0 where
  pub same : length words ≡ size
  pub many : p.count + 2 * left ≤ 12
  pub fine : at < g.columns
  pub goes : on (add_mirrored g left at (pattern (circle_at g.start) words p)) rest ≡ whole
