-- Searches that are not refused: one column of their range is free. Assumes nothing.
use Rattle.std.specs.Prelude.{if◌then◌else◌}
use mathlib.Core.Path.{◌≡◌, refl, sym, ap, ◌∙◌, subst}
use Prim.Native.Nat.{ℕ, zero, suc, ◌+◌, ◌-◌, ◌≤◌, ◌<◌}
use native.Mathlib.Omega.{arith}
use mathlib.Core.Bool.{Bool, true, false}
use lib.Dec.{eqb, ltb}
use borrow.Author.Tests.{eqb-true, eqb-false, ltb-true, ltb-false, ne_eqb}
use Rattle.rules.specs.Refusal.{Refusal, no_column, long_search}
use Rattle.random.specs.Generator.{between}
use Rattle.mania.specs.declared.Next.{Next}
use Rattle.mania.specs.declared.Next.TheVariants.{Draw, Step}
use Rattle.mania.specs.Pattern.{free, any_free}
use Rattle.mania.specs.PatternGenerator.{random_start, get_random_column, next_column, step_to, Searched, draw_to, search_on, column_search, find_available_column}
use Rattle.mania.proofs.Masks.{bit, free_bit}
use Rattle.mania.proofs.Columns.{within}
use Rattle.mania.proofs.Meets.{Meets, giving, refusing, seq, by, valued}
use Rattle.mania.proofs.Frees.{frees, some_free, Free, find_free}

pub never : {b : Bool} → b ≡ true → b ≡ false → ⊥
never {b} h k = let z : ◌≡◌ {A = ℕ} 1 0 = ap (λ (b : Bool). if b then 1 else 0) (sym h ∙ k) in omega arith

-- a column from lower up to upper
abbrev pub In : ℕ → ℕ → ℕ → Type 0
In lower upper c = (lower ≤ c) × (c < upper)

-- a column that a mask has free, in that range
abbrev pub FreeIn : ℕ → ℕ → ℕ → ℕ → Type 0
FreeIn taken lower upper c = (bit taken c ≡ 0) × In lower upper c

-- a search that finds such a column
abbrev pub Finds : ℕ → ℕ → ℕ → Searched → Type 0
Finds taken lower upper s = FreeIn taken lower upper s.column

module _ (Q : Refusal → Type 0) (long : Q long_search) where
  -- ---- by steps: as many as there are columns go round the deck

  module _ (columns taken : ℕ) where
    abbrev low : ℕ
    low = random_start columns

    next_wrap : (c : ℕ) → c + 1 ≡ columns → next_column columns c ≡ low
    unfolding next_column
    next_wrap c e = rw (borrow.Author.Tests.eq-eqb (c + 1) columns e)

    next_up : (c : ℕ) → (c + 1 ≡ columns → ⊥) → next_column columns c ≡ c + 1
    unfolding next_column
    next_up c e = rw (ne_eqb (c + 1) columns e)

    -- one step: to a column that is free, or on from there
    step : (n c d : ℕ) → next_column columns c ≡ d → In low columns d → (free taken d ≡ false → Meets Q (Finds taken low columns) (step_to n columns taken d))
        → Meets Q (Finds taken low columns) (step_to (suc n) columns taken c)
    unfolding step_to
    step n c d e h k = rw e (by (free taken d) _ _ (λ f. giving (free_bit taken d f, h)) k)

    other : (d t : ℕ) → free taken t ≡ true → free taken d ≡ false → d ≡ t → ⊥
    other d t f g e = never f (subst (λ (x : ℕ). free taken x ≡ false) e g)

    -- to a free column above
    up : (n c t : ℕ) → In low columns c → c < t → t < columns → t - c ≤ n → free taken t ≡ true → Meets Q (Finds taken low columns) (step_to n columns taken c)
    up zero c t h l m k f = absurd (none k)
      where
        none : t - c ≤ 0 → ⊥
        none k = omega arith
    up (suc n) c t h l m k f =
        step n c (c + 1) (next_up c (λ e. omega arith)) (omega arith, omega arith)
        (λ g. let x = other (c + 1) t f g in up n (c + 1) t (omega arith, omega arith) (omega arith) m (omega arith) f)

    -- to a free column at or below, past the last one
    around : (n c t : ℕ) → In low columns c → t ≤ c → low ≤ t → columns - c + (t - low) ≤ n → free taken t ≡ true → Meets Q (Finds taken low columns) (step_to n columns taken c)
    around zero c t h l m k f = absurd (none h k)
      where
        none : In low columns c → columns - c + (t - low) ≤ 0 → ⊥
        none h k = omega arith
    around (suc n) c t h l m k f = go (eqb (c + 1) columns) refl (λ d. up n low t d) (λ i j. around n (c + 1) t i j m)
      where
        go : (b : Bool) → eqb (c + 1) columns ≡ b
            → (In low columns low → low < t → t < columns → t - low ≤ n → free taken t ≡ true → Meets Q (Finds taken low columns) (step_to n columns taken low))
            → (In low columns (c + 1) → t ≤ c + 1 → columns - (c + 1) + (t - low) ≤ n → free taken t ≡ true → Meets Q (Finds taken low columns) (step_to n columns taken (c + 1)))
            → Meets Q (Finds taken low columns) (step_to (suc n) columns taken c)
        go true e above on =
            let z = eqb-true (c + 1) columns e in
            step n c low (next_wrap c z) (omega arith, omega arith)
            (λ g. let x = other low t f g in above (omega arith, omega arith) (omega arith) (omega arith) (omega arith) f)
        go false e above on =
            let z = eqb-false (c + 1) columns e in
            step n c (c + 1) (next_up c z) (omega arith, omega arith) (λ g. on (omega arith, omega arith) (omega arith) (omega arith) f)

    -- the refusal of the stepping search is not reached
    pub steps_find : (c : ℕ) → In low columns c → any_free taken low (columns - low) ≡ true → Meets Q (Finds taken low columns) (step_to columns columns taken c)
    steps_find c h a = go (find_free taken low (columns - low) a)
      where
        pick : (t : ℕ) → low ≤ t → t < columns → free taken t ≡ true → (b : Bool) → ltb c t ≡ b → Meets Q (Finds taken low columns) (step_to columns columns taken c)
        pick t l m f true e = let z = ltb-true c t e in up columns c t h z m (omega arith) f
        pick t l m f false e = let z = ltb-false c t e in around columns c t h z l (omega arith) f

        go : Free taken low (columns - low) → Meets Q (Finds taken low columns) (step_to columns columns taken c)
        go f = pick f.at f.from (omega (arith, f.to, f.from)) f.is (ltb c f.at) refl

  -- ---- by draws

  module _ (lower upper taken : ℕ) (some : lower < upper) where
    draws_find : Meets Q (Finds taken lower upper) (draw_to lower upper taken)
    unfolding draw_to
    draws_find = record { ends = (long, λ v n l e. (free_bit taken (between lower upper v) e, within lower upper some v l)) }

    -- a search that draws; where no column is free, Q holds of its refusal
    pub search : (columns c : ℕ) → In lower upper c → (free taken c ≡ false → any_free taken lower (upper - lower) ≡ false → Q no_column)
        → Meets Q (FreeIn taken lower upper) (find_available_column Draw columns c lower upper taken)
    unfolding find_available_column column_search search_on
    search columns c h q =
        seq {P = Finds taken lower upper} (by (free taken c) _ _ (λ e. giving (free_bit taken c e, h))
        (λ e. by (any_free taken lower (upper - lower)) _ _ (λ f. draws_find) (λ f. refusing (q e f)))) (λ s f. giving f)

    -- with room
    pub search_in : (columns c : ℕ) → In lower upper c → 0 < frees taken lower (upper - lower)
        → Meets Q (FreeIn taken lower upper) (find_available_column Draw columns c lower upper taken)
    search_in columns c h k = search columns c h (λ e f. absurd (never (some_free taken lower (upper - lower) k) f))

    -- a drawn column
    pub any_in : Meets Q (In lower upper) (get_random_column lower upper)
    unfolding get_random_column
    any_in = seq valued (λ v l. giving (within lower upper some v l))

  -- by draws or by steps
  pub search_by : (next : Next) (columns c taken : ℕ) → In (random_start columns) columns c → 0 < frees taken (random_start columns) (columns - random_start columns)
      → Meets Q (FreeIn taken (random_start columns) columns) (find_available_column next columns c (random_start columns) columns taken)
  unfolding find_available_column column_search search_on
  search_by Draw columns c taken h k = search_in (random_start columns) columns taken (omega arith) columns c h k
  search_by Step columns c taken h k =
      seq {P = Finds taken (random_start columns) columns} (by (free taken c) _ _ (λ e. giving (free_bit taken c e, h))
      (λ e. by (any_free taken (random_start columns) (columns - random_start columns)) _ _ (λ f. steps_find columns taken c h f)
      (λ f. absurd (never (some_free taken (random_start columns) (columns - random_start columns) k) f)))) (λ s f. giving f)
