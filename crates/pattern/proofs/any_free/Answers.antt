-- `pattern::any_free` meets its contract: `any` over the range is the definition's. Assumes nothing.
use Rattle.std.specs.Prelude.{◌≡◌, refl, ℕ, zero, suc, ◌-◌, ◌||◌}
use Rattle.std.specs.List.{range_with_len, list_any}
use Rattle.std.proofs.Common.{rules, ap, ◌∙◌}
use Rattle.std.proofs.Math.Numerals.{add-one}
use Rattle.std.proofs.lemmas.Iterator.{YieldsList-from_range}
use Rattle.std.proofs.lemmas.Iterator.Search.{any_from_yields_List}
use Rattle.mania.specs.Pattern.{free, any_free}
use Rattle.pattern.proofs.any_free.Goals as goal

over : (mask c n : ℕ) → list_any (free mask) (range_with_len c n) ≡ any_free mask c n
unfolding any_free
over mask c zero = refl
over mask c (suc n) = rw (add-one c) (ap (λ b. free mask c || b) (over mask (suc c) n))

pub returns : goal.returns
returns c =
    let a = c.args in
    any_from_yields_List (free a.mask) _ _ _ c.any.ensures.ran (YieldsList-from_range a.lower a.upper (a.upper - a.lower) refl refl) (λ x b q k. search rules)
    ∙ over a.mask a.lower (a.upper - a.lower)
