-- What holds of all that a rule can give, its draws being below 2 ^ 31, holds of what it gave. Assumes nothing.
use Rattle.std.specs.Prelude.{◌≡◌, refl, Bool, true, false, if◌then◌else◌}
use Rattle.std.proofs.Common.{subst, mod-lt, pow_pos}
use Prim.Native.Nat.{ℕ, zero, suc, max, ◌^◌, ◌<◌}
use Rattle.rules.specs.Rule.{Rule, give, refuse, draw, draw_until, ◌>>=◌}
use Rattle.random.specs.Generator.{next, low}
use Rattle.random.specs.Play.{Answer, found, refused, play_until, play, play_on}
use Rattle.random.specs.declared.Random.{Random}
use Rattle.random.specs.declared.Draws.{Draws}

pub low_lt : (s : Random) → low s < 2 ^ 31
unfolding low
low_lt s = mod-lt s.w (pow_pos 31)

abbrev pub Gives : {P R A : Type 0} → (A → Type 0) → Rule P R A → Type 0
Gives Q (give a) = Q a
Gives Q (refuse r) = Unit {0}
Gives Q (draw p k) = (v : ℕ) → v < 2 ^ 31 → Gives Q (k v)
Gives Q (draw_until p limit r test k) = (v n : ℕ) → v < 2 ^ 31 → test v ≡ true → Gives Q (k v n)

abbrev Found : {S A : Type 0} → (A → Type 0) → Answer S A → Type 0
Found Q (found a d) = Q a
Found Q (refused x d) = Unit {0}

branch : {S A : Type 0} (Q : A → Type 0) (b : Bool) (x y : Answer S A) → (b ≡ true → Found Q x) → Found Q y → Found Q (if b then x else y)
branch Q true x y h g = h refl
branch Q false x y h g = g

module _ {P R S A : Type 0} (out : P → S) (no : R → S) (Q : A → Type 0) where
  until_gives : (p : P) (r : R) (test : ℕ → Bool) (k : ℕ → ℕ → Rule P R A)
      → ((v n : ℕ) → v < 2 ^ 31 → test v ≡ true → (l g : ℕ) (s : Random) → Found Q (play out no (k v n) l g s))
      → (more made l g : ℕ) (s : Random) → Found Q (play_until out no p r test (λ v n. play out no (k v n)) more made l g s)
  unfolding play_until
  until_gives p r test k h zero made l g s = tt
  until_gives p r test k h (suc more) made zero g s = tt
  until_gives p r test k h (suc more) made (suc l) g s =
      let v = low (next s) in
      branch Q (test v) (play out no (k v (suc made)) l (max g (suc made)) (next s)) (play_until out no p r test (λ v n. play out no (k v n)) more (suc made) l g (next s))
      (λ e. h v (suc made) (low_lt (next s)) e l (max g (suc made)) (next s)) (until_gives p r test k h more (suc made) l g (next s))

  play_gives : (m : Rule P R A) → Gives Q m → (l g : ℕ) (s : Random) → Found Q (play out no m l g s)
  unfolding play
  play_gives (give a) i l g s = i
  play_gives (refuse r) i l g s = tt
  play_gives (draw p k) i zero g s = tt
  play_gives (draw p k) i (suc l) g s = play_gives (k (low (next s))) (i (low (next s)) (low_lt (next s))) l g (next s)
  play_gives (draw_until p limit r test k) i l g s = until_gives p r test k (λ v n h e. play_gives (k v n) (i v n h e)) limit 0 l g s

  pub play_gave : (m : Rule P R A) → Gives Q m → (d : Draws) (a : A) (e : Draws) → play_on out no m d ≡ found a e → Q a
  play_gave m g d a e h = subst (Found Q) h (play_gives m g d.tally.left d.tally.longest d.random)

pub if_gives : {P R A : Type 0} (Q : A → Type 0) (b : Bool) (m n : Rule P R A) → Gives Q m → Gives Q n → Gives Q (if b then m else n)
if_gives Q true m n g h = g
if_gives Q false m n g h = h

pub bind_gives : {P R A B : Type 0} (Q : A → Type 0) (Q' : B → Type 0) (f : A → Rule P R B) → ((a : A) → Q a → Gives Q' (f a))
    → (m : Rule P R A) → Gives Q m → Gives Q' (m >>= f)
unfolding ◌>>=◌
bind_gives Q Q' f h (give a) g = h a g
bind_gives Q Q' f h (refuse r) g = tt
bind_gives Q Q' f h (draw p k) g = λ v l. bind_gives Q Q' f h (k v) (g v l)
bind_gives Q Q' f h (draw_until p limit r test k) g = λ v n l e. bind_gives Q Q' f h (k v n) (g v n l e)
