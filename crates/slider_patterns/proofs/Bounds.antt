-- Bounds on what the rules give, and on times and rooms. Assumes nothing.
use Rattle.std.specs.Prelude.{if◌then◌else◌}
use mathlib.Core.Path.{◌≡◌, refl}
use Prim.Native.Nat.{ℕ, ◌+◌, ◌*◌, ◌^◌, ◌≤◌, ◌<◌}
use native.Mathlib.Nat.{le_refl, mul-le-mul_right, mul_comm}
use native.Mathlib.Omega.{arith}
use mathlib.Core.Bool.{Bool, true, false, ◌&&◌}
use lib.Dec.{leb, ltb}
use borrow.Author.Tests.{leb-true}
use lib.Count.{ones}
use lib.Ieee.{Float, lt}
use Rattle.rules.specs.Rule.{give, ◌>>=◌}
use Rattle.random.specs.Generator.{unit}
use Rattle.random.specs.Play.{found, on}
use Rattle.random.specs.declared.Draws.{Draws}
use Rattle.random.specs.Laws.Gives.{Gives, if_gives}
use Rattle.random.specs.Laws.On.{gives}
use Rattle.mania.specs.declared.PathObjectPatternGenerator.{PathObjectPatternGenerator}
use Rattle.mania.specs.Steps.{double}
use Rattle.mania.specs.declared.Next.TheVariants.{Draw}
use Rattle.mania.specs.PatternType.{contains, force_not_stack}
use Rattle.mania.specs.PatternGenerator.{random_start, get_column, get_random_note_count}
use Rattle.mania.specs.PathObject.{legacy, find_column, head_column, one_or_two, beside_count}
use Rattle.pattern.specs.Laws.Searches.{find_gives, start_lt, get_column_lt}
use Rattle.pattern.specs.Laws.Bounds.{note_count_le}
use Rattle.slider_patterns.specs.Parts.{Fits}

-- ---- columns

-- more than one column is not legacy
pub legacy_lt : (columns : ℕ) → 2 ≤ columns → legacy columns + 1 < columns
unfolding legacy
legacy_lt columns h = go (leb 4 columns) refl
  where
    go : (b : Bool) → leb 4 columns ≡ b → (if b && leb columns 8 then 1 else 0) + 1 < columns
    go true e = omega (arith, leb-true 4 columns e, top (leb columns 8))
      where
        top : (b : Bool) → (if b then 1 else 0) ≤ 1
        top true = omega arith
        top false = omega arith
    go false e = omega arith

head_gives : (g : PathObjectPatternGenerator) (flags : ℕ) → 1 ≤ g.columns → Gives (λ c. c < g.columns) (head_column g flags)
unfolding head_column find_column
head_gives g flags h =
    if_gives (λ c. c < g.columns) (contains flags force_not_stack && ltb (ones g.mask) g.columns) (find_column g (get_column g.x g.columns) g.mask) _
    (find_gives Draw g.columns (get_column g.x g.columns) (random_start g.columns) g.columns g.mask (get_column_lt g.x g.columns h) (start_lt g.columns h) (le_refl g.columns))
    (get_column_lt g.x g.columns h)

pub head_lt : (g : PathObjectPatternGenerator) (flags : ℕ) → 1 ≤ g.columns → (d : Draws) (c : ℕ) (e : Draws) → on (head_column g flags) d ≡ found c e → c < g.columns
head_lt g flags h d c e f = gives (λ c. c < g.columns) (head_column g flags) (head_gives g flags h) d c e f

-- ---- counts

counts_gives : (p2 p3 p4 p5 p6 : Float) → Gives (λ n. n ≤ 6) (get_random_note_count p2 p3 p4 p5 p6)
unfolding get_random_note_count ◌>>=◌
counts_gives p2 p3 p4 p5 p6 = λ v h. note_count_le p2 p3 p4 p5 p6 (unit v)

one_gives : (p2 : Float) → Gives (λ n. n ≤ 6) (one_or_two p2)
unfolding one_or_two
one_gives p2 = counts_gives p2 (double 0 1) (double 0 1) (double 0 1) (double 0 1)

beside_gives : (g : PathObjectPatternGenerator) → Gives (λ n. n ≤ 6) (beside_count g)
unfolding beside_count
beside_gives g =
    let few = ltb g.columns 6 in
    if_gives (λ n. n ≤ 6) (lt (double 65 10) g.difficulty) (one_or_two (double 63 100)) _ (one_gives (double 63 100))
    (if_gives (λ n. n ≤ 6) (lt (double 4 1) g.difficulty) (one_or_two (if few then double 12 100 else double 45 100)) _ (one_gives _)
    (if_gives (λ n. n ≤ 6) (lt (double 25 10) g.difficulty) (one_or_two (if few then double 0 1 else double 24 100)) (give 0) (one_gives _) (omega arith)))

pub beside_small : (g : PathObjectPatternGenerator) (d : Draws) (n : ℕ) (e : Draws) → on (beside_count g) d ≡ found n e → n ≤ 6
beside_small g d n e f = gives (λ n. n ≤ 6) (beside_count g) (beside_gives g) d n e f

-- ---- times and rooms

module _ (g : PathObjectPatternGenerator) (f : Fits g) where
  pub times_le : (n : ℕ) → n ≤ g.spans + 1 → g.start + n * g.length < 2 ^ 26
  times_le n h =
      let k : n * g.length ≤ (g.spans + 1) * g.length = mul-le-mul_right g.length h in
      omega (arith, f.times)

  pub end_lt : g.start + g.length * g.spans < 2 ^ 26
  end_lt = rw (mul_comm g.length g.spans) (times_le g.spans (omega arith))
