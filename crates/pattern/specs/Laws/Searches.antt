-- The steps of a search, as the code takes them, and where its columns lie. Assumes nothing.
use Rattle.std.specs.Prelude.{◌≡◌, Bool, true, false, eqb, Float, if◌then◌else◌}
use Rattle.std.proofs.Math.Path.{refl, ap}
use Rattle.std.proofs.Common.{◌∙◌, lt_of_lt_of_le, le_refl, eqb-true}
use Prim.Native.Nat.{ℕ, zero, suc, ◌+◌, ◌-◌, ◌≤◌, ◌<◌}
use Rattle.std.proofs.Math.Numerals.{add-one}
use native.Mathlib.Omega.{arith}
use Rattle.std.proofs.lemmas.Bool.{eqb-false}
use Rattle.rules.specs.Numbers as Numbers
use Rattle.rules.specs.Rule.{give, refuse}
use Rattle.rules.specs.Refusal.{ObjectRule, no_column, long_search}
use Rattle.random.specs.Generator.{between}
use Rattle.random.specs.Play.{Answer, found, refused, searched, play, on, on_until, value}
use Rattle.random.specs.declared.Draws.{Draws}
use Rattle.random.specs.Laws.Took.{took_until, none_until, limit_until}
use Rattle.random.specs.Laws.Range.{between_lt}
use Rattle.random.specs.Laws.Gives.{Gives, if_gives, bind_gives}
use Rattle.random.specs.Laws.On.{found_bind, refused_bind, gives}
use Rattle.mania.specs.declared.Next.{Next}
use Rattle.mania.specs.declared.Next.TheVariants.{Draw, Step}
use Rattle.mania.specs.Pattern.{free, any_free}
use Rattle.mania.specs.ManiaObject.{column}
use Rattle.pattern.specs.Laws.Bounds.{drawn_lt}
use Rattle.model.specs.Limits.{search_limit}
use Rattle.mania.specs.PatternGenerator.{random_start, get_column, get_random_column, Searched, undrawn, next_column, step_to, draw_to, search_on, column_search, find_available_column}

-- ---- whether a column is free

module _ (mask c upper : ℕ) where
  pub any_hit : c < upper → free mask c ≡ true → any_free mask c (upper - c) ≡ true
  unfolding any_free
  any_hit h e = let n : upper - c ≡ suc (upper - (c + 1)) = omega arith in rw (n, e)

  pub any_miss : c < upper → free mask c ≡ false → any_free mask c (upper - c) ≡ any_free mask (c + 1) (upper - (c + 1))
  unfolding any_free
  any_miss h e = let n : upper - c ≡ suc (upper - (c + 1)) = omega arith in rw (n, e, add-one c)

  pub any_end : upper ≤ c → any_free mask c (upper - c) ≡ false
  unfolding any_free
  any_end h = let n : upper - c ≡ 0 = omega arith in rw n

-- ---- steps

-- the first column of a search is one of the deck's
pub start_lt : (columns : ℕ) → 0 < columns → random_start columns < columns
unfolding random_start
start_lt columns h = go (eqb columns 8) refl
  where
    go : (b : Bool) → eqb columns 8 ≡ b → (if b then 1 else 0) < columns
    go true e = let z = eqb-true columns 8 e in omega arith
    go false e = omega arith

-- and never past its end
pub start_le : (columns : ℕ) → random_start columns ≤ columns
unfolding random_start
start_le columns = go (eqb columns 8) refl
  where
    go : (b : Bool) → eqb columns 8 ≡ b → (if b then 1 else 0) ≤ columns
    go true e = let z = eqb-true columns 8 e in omega arith
    go false e = omega arith

pub next_lt : (columns c : ℕ) → c < columns → next_column columns c < columns
unfolding next_column
next_lt columns c h = go (eqb (c + 1) columns) refl
  where
    go : (b : Bool) → eqb (c + 1) columns ≡ b → (if b then random_start columns else c + 1) < columns
    go true e = start_lt columns (omega arith)
    go false e = let z = eqb-false (c + 1) columns e in omega arith

module _ (n columns taken c : ℕ) (d : Draws) where
  pub step_hit : (e : ℕ) → 0 < n → e ≡ next_column columns c → free taken e ≡ true → on (step_to n columns taken c) d ≡ found (undrawn e) d
  unfolding step_to play
  step_hit e h i f = let k : n ≡ suc (n - 1) = omega arith in rw (k, ← i, f)

  pub step_miss : (e : ℕ) → 0 < n → e ≡ next_column columns c → free taken e ≡ false → on (step_to n columns taken c) d ≡ on (step_to (n - 1) columns taken e) d
  unfolding step_to
  step_miss e h i f =
      let k : n ≡ suc (n - 1) = omega arith in
      ap (λ (m : ℕ). on (step_to m columns taken c) d) k ∙ rw (← i, f)

  pub step_out : n ≤ 0 → on (step_to n columns taken c) d ≡ refused Numbers.no_column d
  unfolding step_to play
  step_out h = let k : n ≡ 0 = omega arith in rw k

-- ---- draws

module _ (lower upper taken : ℕ) where
  abbrev passes : ℕ → Bool
  passes v = free taken (between lower upper v)

  abbrev finds : ℕ → ℕ → ObjectRule Searched
  finds v n = give (record { column = between lower upper v; draws = n })

  -- the rest of a search that has made `made` draws
  abbrev pub draw_on : ℕ → Draws → Answer ℕ Searched
  draw_on made d = on_until long_search passes finds (search_limit - made) made d

  pub draw_start : (d : Draws) → draw_on 0 d ≡ on (draw_to lower upper taken) d
  unfolding draw_to play
  draw_start d = refl

  module _ (made : ℕ) (d : Draws) where
    module _ (more : made < search_limit) where
      some : search_limit - made ≡ 0 → ⊥
      some e = omega arith

      fewer : search_limit - made - 1 ≡ search_limit - (made + 1)
      fewer = omega arith

      pub draw_hit : (v : ℕ) (e : Draws) (c : ℕ) → on value d ≡ found v e → c ≡ between lower upper v → free taken c ≡ true
          → draw_on made d ≡ found (record { column = c; draws = made + 1 }) (searched (made + 1) e)
      unfolding play
      draw_hit v e c h i f = took_until d v e h long_search passes finds (search_limit - made) made some ∙ rw (← i, f, add-one made)

      pub draw_miss : (v : ℕ) (e : Draws) (c : ℕ) → on value d ≡ found v e → c ≡ between lower upper v → free taken c ≡ false
          → draw_on made d ≡ draw_on (made + 1) e
      draw_miss v e c h i f = took_until d v e h long_search passes finds (search_limit - made) made some ∙ rw (← i, f, fewer, add-one made)

      pub draw_out : (x : ℕ) (e : Draws) → on value d ≡ refused x e → draw_on made d ≡ refused Numbers.no_draw_left (searched made d)
      draw_out x e h = none_until long_search passes finds (search_limit - made) made d x e h some

    pub draw_over : search_limit ≤ made → draw_on made d ≡ refused Numbers.long_search (searched made d)
    draw_over h = let z : search_limit - made ≡ 0 = omega arith in limit_until long_search passes finds (search_limit - made) made d z

-- ---- the whole search

module _ (next : Next) (columns i lower upper taken : ℕ) (d : Draws) where
  pub find_self : free taken i ≡ true → on (column_search next columns i lower upper taken) d ≡ found (undrawn i) d
  unfolding column_search play
  find_self f = rw f

  pub find_on : free taken i ≡ false → any_free taken lower (upper - lower) ≡ true
      → on (column_search next columns i lower upper taken) d ≡ on (search_on next columns i lower upper taken) d
  unfolding column_search
  find_on f a = rw (f, a)

  pub find_none : free taken i ≡ false → any_free taken lower (upper - lower) ≡ false
      → on (column_search next columns i lower upper taken) d ≡ refused Numbers.no_column d
  unfolding column_search play
  find_none f a = rw (f, a)

  -- its column alone
  pub column_found : (s : Searched) (e : Draws) → on (column_search next columns i lower upper taken) d ≡ found s e
      → on (find_available_column next columns i lower upper taken) d ≡ found s.column e
  unfolding find_available_column play
  column_found s e h = found_bind (column_search next columns i lower upper taken) _ d s e h

  pub column_refused : (x : ℕ) (e : Draws) → on (column_search next columns i lower upper taken) d ≡ refused x e
      → on (find_available_column next columns i lower upper taken) d ≡ refused x e
  unfolding find_available_column
  column_refused x e h = refused_bind (column_search next columns i lower upper taken) _ d x e h

-- ---- a column that is found is on the deck

-- a search that finds a column of the deck
abbrev Finds : ℕ → Searched → Type 0
Finds columns s = s.column < columns

step_gives : (n columns taken c : ℕ) → c < columns → Gives (Finds columns) (step_to n columns taken c)
unfolding step_to
step_gives zero columns taken c h = tt
step_gives (suc n) columns taken c h =
    if_gives (Finds columns) (free taken (next_column columns c)) (give (undrawn (next_column columns c))) (step_to n columns taken (next_column columns c))
    (next_lt columns c h) (step_gives n columns taken (next_column columns c) (next_lt columns c h))

search_gives : (next : Next) (columns c lower upper taken : ℕ) → c < columns → lower < upper → upper ≤ columns
    → Gives (Finds columns) (search_on next columns c lower upper taken)
unfolding search_on draw_to
search_gives Draw columns c lower upper taken h l u = λ v n k e. lt_of_lt_of_le (between_lt k l) u
search_gives Step columns c lower upper taken h l u = step_gives columns columns taken c h

module _ (next : Next) (columns i lower upper taken : ℕ) where
  pub find_gives : i < columns → lower < upper → upper ≤ columns → Gives (λ e. e < columns) (find_available_column next columns i lower upper taken)
  unfolding find_available_column column_search
  find_gives h l u =
      bind_gives (Finds columns) (λ e. e < columns) (λ s. give s.column) (λ s g. g) (column_search next columns i lower upper taken)
      (if_gives (Finds columns) (free taken i) (give (undrawn i)) _ h
      (if_gives (Finds columns) (any_free taken lower (upper - lower)) (search_on next columns i lower upper taken) (refuse no_column)
      (search_gives next columns i lower upper taken h l u) tt))

  pub on_deck : i < columns → lower < upper → upper ≤ columns → (d : Draws) (c : ℕ) (e : Draws)
      → on (find_available_column next columns i lower upper taken) d ≡ found c e → c < columns
  on_deck h l u d c e f = gives (λ e. e < columns) (find_available_column next columns i lower upper taken) (find_gives h l u) d c e f

-- by draws over the whole deck
module _ (columns : ℕ) (h : 1 ≤ columns) (d : Draws) (c : ℕ) (e : Draws) where
  pub find_on_deck : (i taken : ℕ) → i < columns → on (find_available_column Draw columns i (random_start columns) columns taken) d ≡ found c e → c < columns
  find_on_deck i taken k f = on_deck Draw columns i (random_start columns) columns taken k (start_lt columns h) (le_refl columns) d c e f

  pub any_on_deck : on (get_random_column (random_start columns) columns) d ≡ found c e → c < columns
  any_on_deck f = drawn_lt (random_start columns) columns (start_lt columns h) d c e f

-- ---- the column of a position is on the deck

pub column_lt : (x : Float) (total : ℕ) → 0 < total → column x total < total
unfolding column
column_lt x total h = omega arith

pub get_column_lt : (x : Float) (columns : ℕ) → 0 < columns → get_column x columns < columns
unfolding get_column
get_column_lt x columns h = go (eqb columns 8) refl
  where
    go : (b : Bool) → eqb columns 8 ≡ b → (if b then column x 7 + 1 else column x columns) < columns
    go true e = omega (arith, eqb-true columns 8 e, column_lt x 7 (omega arith))
    go false e = column_lt x columns h
