-- What a search for a column gives. Assumes nothing.
use Rattle.std.specs.Prelude.{if◌then◌else◌}
use mathlib.Core.Path.{◌≡◌, refl}
use Prim.Native.Nat.{ℕ, zero, suc, ◌+◌, ◌-◌, ◌/◌, ◌^◌, ◌≤◌, ◌<◌}
use native.Mathlib.Omega.{arith}
use mathlib.Core.Bool.{Bool, true, false}
use lib.Dec.{eqb}
use lib.Ieee.{Float}
use borrow.Author.Tests.{eqb-true}
use Rattle.random.specs.Generator.{between}
use Rattle.random.specs.Laws.Range.{between_lt}
use Rattle.mania.specs.declared.Next.{Next}
use Rattle.mania.specs.declared.Next.TheVariants.{Draw, Step}
use Rattle.mania.specs.Pattern.{free, any_free}
use Rattle.mania.specs.ManiaObject.{column}
use Rattle.mania.specs.PatternGenerator.{random_start, get_column, get_random_note_count, get_random_column, next_column, step_to, draw_to, search_on, column_search, find_available_column}
use Rattle.mania.proofs.Masks.{bit, free_bit}
use Rattle.mania.proofs.Makes.{Makes, giving, refusing, seq, by, valued}

-- ---- ranges

pub between_ge : (lower upper v : ℕ) → lower ≤ between lower upper v
unfolding between
between_ge lower upper v = omega arith

pub next_ge : (columns c : ℕ) → random_start columns ≤ c → random_start columns ≤ next_column columns c
unfolding next_column
next_ge columns c h = go (eqb (c + 1) columns)
  where
    go : (b : Bool) → random_start columns ≤ (if b then random_start columns else c + 1)
    go true = omega arith
    go false = omega arith

pub start_le : (x : Float) (columns : ℕ) → random_start columns ≤ get_column x columns
unfolding random_start get_column
start_le x columns = go (eqb columns 8)
  where
    go : (b : Bool) → (if b then 1 else 0) ≤ (if b then column x 7 + 1 else column x columns)
    go true = omega arith
    go false = omega arith

-- the special column is one of 8
pub start_small : (columns : ℕ) → 2 ≤ columns → random_start columns < columns / 2
unfolding random_start
start_small columns h = go (eqb columns 8) refl
  where
    go : (b : Bool) → eqb columns 8 ≡ b → (if b then 1 else 0) < columns / 2
    go true e = let z = eqb-true columns 8 e in omega arith
    go false e = omega arith

-- ---- searches

module _ (Q : ℕ → Type 0) (columns lower upper taken : ℕ) (drawn : (v : ℕ) → v < 2 ^ 31 → Q (between lower upper v)) where
  -- a column that is free, of which Q holds
  abbrev Free : ℕ → Type 0
  Free d = (bit taken d ≡ 0) × Q d

  draw_makes : Makes (λ s. Free s.column) (draw_to lower upper taken)
  unfolding draw_to
  draw_makes = record { made = λ v n l e. (free_bit taken (between lower upper v) e, drawn v l) }

  pub find_draw : (c : ℕ) → Q c → Makes (λ d. (bit taken d ≡ 0) × Q d) (find_available_column Draw columns c lower upper taken)
  unfolding find_available_column column_search search_on
  find_draw c h =
      seq {P = λ s. Free s.column} (by (free taken c) _ _ (λ e. giving (free_bit taken c e, h))
      (λ e. by (any_free taken lower (upper - lower)) _ _ (λ e. draw_makes) (λ e. refusing))) (λ s f. giving f)

  module _ (stepped : (d : ℕ) → Q d → Q (next_column columns d)) where
    step_makes : (n c : ℕ) → Q c → Makes (λ s. Free s.column) (step_to n columns taken c)
    unfolding step_to
    step_makes zero c h = refusing
    step_makes (suc n) c h =
        by (free taken (next_column columns c)) _ _ (λ e. giving (free_bit taken (next_column columns c) e, stepped c h)) (λ e. step_makes n (next_column columns c) (stepped c h))

    onward_makes : (next : Next) (c : ℕ) → Q c → Makes (λ s. Free s.column) (search_on next columns c lower upper taken)
    unfolding search_on
    onward_makes Draw c h = draw_makes
    onward_makes Step c h = step_makes columns c h

    pub find_any : (next : Next) (c : ℕ) → Q c → Makes (λ d. (bit taken d ≡ 0) × Q d) (find_available_column next columns c lower upper taken)
    unfolding find_available_column column_search
    find_any next c h =
        seq {P = λ s. Free s.column} (by (free taken c) _ _ (λ e. giving (free_bit taken c e, h))
        (λ e. by (any_free taken lower (upper - lower)) _ _ (λ e. onward_makes next c h) (λ e. refusing))) (λ s f. giving f)

-- a drawn column
pub column_makes : (Q : ℕ → Type 0) (lower upper : ℕ) → ((v : ℕ) → v < 2 ^ 31 → Q (between lower upper v)) → Makes Q (get_random_column lower upper)
unfolding get_random_column
column_makes Q lower upper h = seq valued (λ v l. giving (h v l))

pub within : (lower upper : ℕ) → lower < upper → (v : ℕ) → v < 2 ^ 31 → (lower ≤ between lower upper v) × (between lower upper v < upper)
within lower upper h v l = (between_ge lower upper v, between_lt l h)

-- a count of notes, of which nothing is said
pub counted : (p2 p3 p4 p5 p6 : Float) → Makes (λ n. Unit {0}) (get_random_note_count p2 p3 p4 p5 p6)
unfolding get_random_note_count
counted p2 p3 p4 p5 p6 = seq valued (λ v l. giving tt)
