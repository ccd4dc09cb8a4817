-- A rule on the values of the first steps from a state: as many as the allowance says, and under another allowance. Assumes nothing.
use Rattle.std.proofs.Math.Path.{◌≡◌, sym, ap₂}
use Rattle.std.specs.Prelude.{refl, ℕ, zero, suc, ◌-◌, min, max, ◌≤◌, List, ◌∷◌, length, take}
use Rattle.std.proofs.Common.{ap, ◌∙◌, subst}
use Rattle.std.proofs.Math.Nat.{zero-min, min-zero, suc-min-suc, min-eq_left}
use native.Mathlib.Omega.{arith}
use Rattle.rules.specs.Rule.{Rule, Outcome, ended, spent, run, taken, Done}
use Rattle.rules.specs.Rule as Rule
use Rattle.rules.specs.Ledger.{ledger, longest}
use Rattle.rules.proofs.Laws.Cut.{Within, run_within, done_within, same_start, too_few, spent_whole}
use Rattle.rules.proofs.Laws.Ledger.{same_ledger}
use Rattle.random.specs.Generator.{next, low, values, steps}
use Rattle.random.specs.Play.{found, refused, tallied, play_on}
use Rattle.random.specs.Lawful.{Lawful}
use Rattle.random.specs.declared.Random.{Random}
use Rattle.random.specs.declared.Draws.{Draws}
use Rattle.random.specs.Laws.Play.{placed, play_run}

-- ---- two allowances

values_length : (a : ℕ) (s : Random) → length (values a s) ≡ a
unfolding values
values_length zero s = refl
values_length (suc a) s = ap suc (values_length a (next s))

values_take : (n a : ℕ) (s : Random) → take n (values a s) ≡ values (min n a) s
unfolding values
values_take zero a s = rw (zero-min a)
values_take (suc n) zero s = rw (min-zero (suc n))
values_take (suc n) (suc a) s = rw (suc-min-suc n a) (ap {B = List ℕ} (λ vs. low (next s) ∷ vs) (values_take n a (next s)))

first : (n a : ℕ) (s : Random) → n ≤ a → take n (values a s) ≡ values n s
first n a s h = values_take n a s ∙ ap (λ (k : ℕ). values k s) (min-eq_left h)

module _ {P R A : Type 0} (m : Rule P R A) (s : Random) where
  within : (a : ℕ) → Within (run m (values a s)) a
  within a = subst (Within (run m (values a s))) (values_length a s) (run_within m (values a s))

  pub done_le : (a : ℕ) → Done (run m (values a s)) → taken (run m (values a s)) ≤ a
  done_le a d = subst (λ (l : ℕ). taken (run m (values a s)) ≤ l) (values_length a s) (done_within m (values a s) d)

  -- every rule, from every state
  pub lawful : Lawful (λ a. run m (values a s))
  lawful = record {
    same = λ a b d h.
        let n = taken (run m (values a s)) in
        same_start m (values a s) (values b s) d (first n b s h ∙ sym (first n a s (done_le a d)));
    fewer = λ a b d h.
        let l : b ≤ a = omega (arith, done_le a d) in
        let t = too_few m (values a s) b h in
        (t.0, ap (run m) (sym (first b a s l)) ∙ t.1);
    whole = λ a p n e. spent_whole m (values a s) p n e ∙ values_length a s;
  }

  -- and its ledger: what ended other than spent has the same searches under every allowance of as many draws as it made or more
  pub same_searches : (a b : ℕ) → Done (run m (values a s)) → taken (run m (values a s)) ≤ b → ledger m (values b s) ≡ ledger m (values a s)
  same_searches a b d h =
      let n = taken (run m (values a s)) in
      same_ledger m (values a s) (values b s) d (first n b s h ∙ sym (first n a s (done_le a d)))

-- ---- from the state and the draws left, back to the list and the draws made

back : (l n g : ℕ) (s : Random) (e : Draws) → n ≤ l → tallied (l - n) g s ≡ e → n ≡ l - e.tally.left
back l n g s e h j = omega (arith, ap (λ (d : Draws). d.tally.left) j)

less : (l n g : ℕ) (s : Random) (e : Draws) → tallied (l - n) g s ≡ e → e.tally.left ≤ l
less l n g s e j = omega (arith, ap (λ (d : Draws). d.tally.left) j)

module _ {P R S A : Type 0} (out : P → S) (no : R → S) (l g : ℕ) (s : Random) where
  found_out : (o : Outcome P R A) (a : A) (e : Draws) → Within o l → placed out no l g s o ≡ found a e
      → (o ≡ ended a (l - e.tally.left)) × (e.tally.left ≤ l) × (e.tally.longest ≡ g)
  unfolding placed
  found_out (ended x n) a e h p =
      let j : tallied (l - n) g (steps n s) ≡ e = cc in
      (ap₂ {C = Outcome P R A} ended (cc) (back l n g (steps n s) e h j), less l n g (steps n s) e j, sym (ap (λ (d : Draws). d.tally.longest) j))
  found_out (Rule.refused x n) a e h p = let z : ◌≡◌ {A = ℕ} 0 1 = cc in absurd (omega arith)
  found_out (spent x n) a e h p = let z : ◌≡◌ {A = ℕ} 0 1 = cc in absurd (omega arith)

  -- to whoever goes by what is said of a rule that does not end with a result
  module _ {B : Type 0} (i : Outcome P R A → B) (f : S → ℕ → B) (outs : (p : P) (n : ℕ) → i (spent p n) ≡ f (out p) n) (nos : (r : R) (n : ℕ) → i (Rule.refused r n) ≡ f (no r) n) where
    refused_out : (o : Outcome P R A) (y : S) (e : Draws) → Within o l → placed out no l g s o ≡ refused y e → (i o ≡ f y (l - e.tally.left)) × (e.tally.left ≤ l)
    unfolding placed
    refused_out (ended x n) y e h p = let z : ◌≡◌ {A = ℕ} 0 1 = cc in absurd (omega arith)
    refused_out (Rule.refused x n) y e h p =
        let j : tallied (l - n) g (steps n s) ≡ e = cc in
        (nos x n ∙ ap₂ {C = B} f (cc) (back l n g (steps n s) e h j), less l n g (steps n s) e j)
    refused_out (spent x n) y e h p =
        let k : n ≤ l = omega arith in
        let j : tallied (l - n) g (steps n s) ≡ e = cc in
        (outs x n ∙ ap₂ {C = B} f (cc) (back l n g (steps n s) e k j), less l n g (steps n s) e j)

module _ {P R S A : Type 0} (out : P → S) (no : R → S) (m : Rule P R A) (d : Draws) where
  abbrev left : ℕ
  left = d.tally.left

  abbrev first_values : List ℕ
  first_values = values left d.random

  -- the longest search, those before included
  abbrev most : ℕ
  most = max d.tally.longest (longest m first_values)

  pub found_run : (a : A) (e : Draws) → play_on out no m d ≡ found a e
      → (run m (values d.tally.left d.random) ≡ ended a (d.tally.left - e.tally.left)) × (e.tally.left ≤ d.tally.left)
      × (e.tally.longest ≡ max d.tally.longest (longest m (values d.tally.left d.random)))
  found_run a e h =
      found_out out no left most d.random (run m first_values) a e (within m d.random left) (sym (play_run out no m left d.tally.longest d.random) ∙ h)

  pub refused_run : {B : Type 0} (g : Outcome P R A → B) (f : S → ℕ → B) → ((p : P) (n : ℕ) → g (spent p n) ≡ f (out p) n) → ((r : R) (n : ℕ) → g (Rule.refused r n) ≡ f (no r) n)
      → (y : S) (e : Draws) → play_on out no m d ≡ refused y e
      → (g (run m (values d.tally.left d.random)) ≡ f y (d.tally.left - e.tally.left)) × (e.tally.left ≤ d.tally.left)
  refused_run g f outs nos y e h =
      refused_out out no left most d.random g f outs nos (run m first_values) y e (within m d.random left) (sym (play_run out no m left d.tally.longest d.random) ∙ h)
