-- The draws that a column search gives back are those that it made, and its ledger has none of them outside a search. Assumes nothing.
use Rattle.std.specs.Prelude.{if◌then◌else◌}
use mathlib.Core.Path.{◌≡◌, refl, ap, subst}
use Prim.Native.Nat.{ℕ, zero, suc, ◌+◌, ◌-◌}
use native.Mathlib.Omega.{arith}
use mathlib.Core.Bool.{Bool, true, false}
use mathlib.Core.List.{List, [], ◌∷◌}
use Rattle.rules.specs.Rule as Rule
use Rattle.rules.specs.Rule.{give, refuse, Outcome, ended, refused, spent, after, drawing_until, run}
use Rattle.rules.specs.Ledger.{Ledger, ledger_until, ledger, sum}
use Rattle.rules.proofs.Laws.Ledger.{all_counted}
use Rattle.rules.specs.Refusal.{Refusal, ObjectRule, no_column, long_search}
use Rattle.random.specs.Generator.{between}
use Rattle.mania.specs.declared.Next.{Next}
use Rattle.mania.specs.declared.Next.TheVariants.{Draw, Step}
use Rattle.mania.specs.Pattern.{free, any_free}
use Rattle.model.specs.Limits.{search_limit}
use Rattle.mania.specs.PatternGenerator.{Searched, undrawn, next_column, step_to, draw_to, search_on, column_search}

-- a search that ends gives the draws made before and those made since
abbrev Own : ℕ → Outcome (Unit {0}) Refusal Searched → Type 0
Own made (ended s n) = s.draws ≡ made + n
Own made (refused r n) = Unit {0}
Own made (spent p n) = Unit {0}

one_more : (made : ℕ) (o : Outcome (Unit {0}) Refusal Searched) → Own (suc made) o → Own made (after o)
unfolding after
one_more made (ended s n) h = omega arith
one_more made (refused r n) h = tt
one_more made (spent p n) h = tt

module _ (p : Unit {0}) (r : Refusal) (test : ℕ → Bool) (column : ℕ → ℕ) where
  abbrev found : ℕ → ℕ → List ℕ → Outcome (Unit {0}) Refusal Searched
  found v n vs = ended (record { column = column v; draws = n }) 0

  branch : (b : Bool) (made v : ℕ) (vs : List ℕ) (later : Outcome (Unit {0}) Refusal Searched) → Own made later → Own made (if b then found v made vs else later)
  branch true made v vs later h = omega arith
  branch false made v vs later h = h

  until_own : (more made : ℕ) (vs : List ℕ) → Own made (drawing_until p r test found more made vs)
  unfolding drawing_until
  until_own zero made vs = tt
  until_own (suc more) made [] = tt
  until_own (suc more) made (v ∷ vs) =
      let later = drawing_until p r test found more (suc made) vs in
      one_more made (if test v then found v (suc made) vs else later) (branch (test v) (suc made) v vs later (until_own more (suc made) vs))

by : (b : Bool) (m n : ObjectRule Searched) (vs : List ℕ) → Own 0 (run m vs) → Own 0 (run n vs) → Own 0 (run (if b then m else n) vs)
by true m n vs h g = h
by false m n vs h g = g

steps_own : (n columns taken c : ℕ) (vs : List ℕ) → Own 0 (run (step_to n columns taken c) vs)
unfolding step_to run
steps_own zero columns taken c vs = tt
steps_own (suc n) columns taken c vs =
    by (free taken (next_column columns c)) (give (undrawn (next_column columns c))) (step_to n columns taken (next_column columns c)) vs refl (steps_own n columns taken (next_column columns c) vs)

onward_own : (next : Next) (columns c lower upper taken : ℕ) (vs : List ℕ) → Own 0 (run (search_on next columns c lower upper taken) vs)
unfolding search_on draw_to run
onward_own Draw columns c lower upper taken vs = until_own tt long_search (λ v. free taken (between lower upper v)) (between lower upper) search_limit 0 vs
onward_own Step columns c lower upper taken vs = steps_own columns columns taken c vs

search_own : (next : Next) (columns c lower upper taken : ℕ) (vs : List ℕ) → Own 0 (run (column_search next columns c lower upper taken) vs)
unfolding column_search run
search_own next columns c lower upper taken vs =
    by (free taken c) (give (undrawn c)) _ vs refl
    (by (any_free taken lower (upper - lower)) (search_on next columns c lower upper taken) (refuse no_column) vs (onward_own next columns c lower upper taken vs) tt)

-- a search that ends with a column tells how many values it took
pub own_draws : (next : Next) (columns c lower upper taken : ℕ) (vs : List ℕ) (s : Searched) (n : ℕ) → run (column_search next columns c lower upper taken) vs ≡ ended s n → s.draws ≡ n
own_draws next columns c lower upper taken vs s n e =
    let h : s.draws ≡ 0 + n = subst (Own 0) e (search_own next columns c lower upper taken vs) in
    omega arith

-- ---- none of its draws is outside every search

abbrev Inside : Ledger → Type 0
Inside l = l.outside ≡ 0

one_inside : (b : Bool) (l m : Ledger) → Inside l → Inside m → Inside (if b then l else m)
one_inside true l m h g = h
one_inside false l m h g = g

either_inside : (b : Bool) (m n : ObjectRule Searched) (vs : List ℕ) → Inside (ledger m vs) → Inside (ledger n vs) → Inside (ledger (if b then m else n) vs)
either_inside true m n vs h g = h
either_inside false m n vs h g = g

until_inside : (test : ℕ → Bool) (column : ℕ → ℕ) (more made : ℕ) (vs : List ℕ)
    → Inside (ledger_until test (λ v n. ledger {P = Unit {0}} {R = Refusal} {A = Searched} (give (record { column = column v; draws = n }))) more made vs)
unfolding ledger_until ledger
until_inside test column zero made vs = refl
until_inside test column (suc more) made [] = refl
until_inside test column (suc more) made (v ∷ vs) = one_inside (test v) _ _ refl (until_inside test column more (suc made) vs)

steps_inside : (n columns taken c : ℕ) (vs : List ℕ) → Inside (ledger (step_to n columns taken c) vs)
unfolding step_to ledger
steps_inside zero columns taken c vs = refl
steps_inside (suc n) columns taken c vs =
    either_inside (free taken (next_column columns c)) (give (undrawn (next_column columns c))) (step_to n columns taken (next_column columns c)) vs refl
    (steps_inside n columns taken (next_column columns c) vs)

onward_inside : (next : Next) (columns c lower upper taken : ℕ) (vs : List ℕ) → Inside (ledger (search_on next columns c lower upper taken) vs)
unfolding search_on draw_to ledger
onward_inside Draw columns c lower upper taken vs = until_inside (λ v. free taken (between lower upper v)) (between lower upper) search_limit 0 vs
onward_inside Step columns c lower upper taken vs = steps_inside columns columns taken c vs

search_inside : (next : Next) (columns c lower upper taken : ℕ) (vs : List ℕ) → Inside (ledger (column_search next columns c lower upper taken) vs)
unfolding column_search ledger
search_inside next columns c lower upper taken vs =
    either_inside (free taken c) (give (undrawn c)) _ vs refl
    (either_inside (any_free taken lower (upper - lower)) (search_on next columns c lower upper taken) (refuse no_column) vs (onward_inside next columns c lower upper taken vs) refl)

-- what it tells is what its ledger has in searches
pub own_searches : (next : Next) (columns c lower upper taken : ℕ) (vs : List ℕ) (s : Searched) (n : ℕ) → run (column_search next columns c lower upper taken) vs ≡ ended s n
    → sum (ledger (column_search next columns c lower upper taken) vs).searches ≡ s.draws
unfolding Rule.taken
own_searches next columns c lower upper taken vs s n e =
    let all = all_counted (column_search next columns c lower upper taken) vs in
    let count : _ ≡ n = ap Rule.taken e in
    omega (arith, all, count, own_draws next columns c lower upper taken vs s n e, search_inside next columns c lower upper taken vs)
