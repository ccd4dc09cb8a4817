-- What follows, in a rule and in numbers, from a draw that gave a value, and from one that found none left. Assumes nothing.
use Rattle.std.specs.Prelude.{◌≡◌, refl, ℕ, zero, suc, ◌-◌, ◌^◌, ◌<◌, Bool, if◌then◌else◌}
use Rattle.std.proofs.Common.{◌∙◌, mod-lt, arith, pow_pos}
use Rattle.rules.specs.Refusal.{Refusal, ObjectRule, number, spent_number}
use Rattle.random.specs.Generator.{next, low}
use Rattle.random.specs.Play.{found, refused, tallied, searched, play, on, on_until, value}
use Rattle.random.specs.declared.Random.{Random}
use Rattle.random.specs.declared.Draws.{Draws}
use Rattle.random.specs.Laws.Play.{one_less, until_none, until_some, until_limit}

-- where a draw left v and e, there was one left, v is the value of the next step, and e is what is left after it
record Taken (l g : ℕ) (s : Random) (v : ℕ) (e : Draws) : Type 0 where
  some : l ≡ 0 → ⊥
  is_v : v ≡ low (next s)
  is_e : e ≡ tallied (l - 1) g (next s)

taken : (l g : ℕ) (s : Random) (v : ℕ) (e : Draws) → play (λ p. spent_number) number value l g s ≡ found v e → Taken l g s v e
unfolding play
taken zero g s v e h = let z : ◌≡◌ {A = ℕ} 0 1 = cc in absurd (omega arith)
taken (suc l) g s v e h = record { some = λ (z : suc l ≡ 0). omega arith; is_v = cc; is_e = rw (one_less l) (cc) }

module _ (d : Draws) (v : ℕ) (e : Draws) (h : on value d ≡ found v e) where
  got : Taken d.tally.left d.tally.longest d.random v e
  got = taken d.tally.left d.tally.longest d.random v e h

  pub took_small : v < 2 ^ 31
  unfolding low
  took_small = rw got.is_v (mod-lt (next d.random).w (pow_pos 31))

  -- a search that may make this draw: it ends with v, or goes on
  pub took_until : {A : Type 0} (r : Refusal) (test : ℕ → Bool) (k : ℕ → ℕ → ObjectRule A) (more made : ℕ) → (more ≡ 0 → ⊥)
      → on_until r test k more made d ≡ (if test v then on (k v (suc made)) (searched (suc made) e) else on_until r test k (more - 1) (suc made) e)
  took_until r test k more made m =
      until_some (λ p. spent_number) number tt r test k more made d.tally.left d.tally.longest d.random m got.some ∙ rw (got.is_v, got.is_e)

none_left : (l g : ℕ) (s : Random) (x : ℕ) (e : Draws) → play (λ p. spent_number) number value l g s ≡ refused x e → l ≡ 0
unfolding play
none_left zero g s x e h = refl
none_left (suc l) g s x e h = let z : ◌≡◌ {A = ℕ} 0 1 = cc in absurd (omega arith)

spent : (l g : ℕ) (s : Random) (x : ℕ) (e : Draws) → play (λ p. spent_number) number value l g s ≡ refused x e → (x ≡ spent_number) × (e ≡ tallied l g s)
unfolding play
spent zero g s x e h = (cc, cc)
spent (suc l) g s x e h = let z : ◌≡◌ {A = ℕ} 0 1 = cc in absurd (omega arith)

-- a draw is refused by its number alone, and leaves the draws as they were
pub refused_draw : (d : Draws) (x : ℕ) (e : Draws) → on value d ≡ refused x e → (x ≡ spent_number) × (e ≡ d)
refused_draw d x e h = spent d.tally.left d.tally.longest d.random x e h

module _ {A : Type 0} (r : Refusal) (test : ℕ → Bool) (k : ℕ → ℕ → ObjectRule A) (more made : ℕ) (d : Draws) where
  -- a search that may make a draw, and finds none left
  pub none_until : (x : ℕ) (e : Draws) → on value d ≡ refused x e → (more ≡ 0 → ⊥) → on_until r test k more made d ≡ refused spent_number (searched made d)
  none_until x e h m = until_none (λ p. spent_number) number tt r test k more made d m (none_left d.tally.left d.tally.longest d.random x e h)

  -- a search that may make no more draws
  pub limit_until : more ≡ 0 → on_until r test k more made d ≡ refused (number r) (searched made d)
  limit_until m = until_limit (λ p. spent_number) number tt r test k more made d m
