-- What a rule comes to from a state of the generator with a number of draws left: each draw takes a step.
-- `Laws.Play.play_run` shows that this equals the rule run on the list of the values of the steps. Assumes nothing.
use Prim.Native.Nat.{ℕ, zero, suc, max}
use Rattle.std.specs.Prelude.{Bool, if◌then◌else◌}
use Rattle.rules.specs.Rule.{Rule, give, refuse, draw, draw_until}
use Rattle.rules.specs.Refusal.{Refusal, number, spent_number, ObjectRule}
use Rattle.random.specs.Generator.{next, low}
use Rattle.random.specs.declared.Random.{Random}
use Rattle.random.specs.declared.Draws.{Draws}

-- How a rule ends, with the draws as they are then. S is what is said of a rule that does not end with a result.
pub data Answer (S A : Type 0) : Type 0 where
  found : A → Draws → Answer S A
  refused : S → Draws → Answer S A

-- a state, the draws left, and the draws of the longest search
abbrev pub tallied : ℕ → ℕ → Random → Draws
tallied left longest s = record { random = s; tally = record { left = left; longest = longest } }

-- the draws after a search that made n
unfoldable pub searched : ℕ → Draws → Draws
searched n d = tallied d.tally.left (max d.tally.longest n) d.random

-- what is said of a draw at p with no value left, and of a refusal by r
module _ {P R S : Type 0} (out : P → S) (no : R → S) where
  -- a search that has made `made` draws and may make `more`; the longest search before it made g
  unfoldable pub play_until : {A : Type 0} → P → R → (ℕ → Bool) → (ℕ → ℕ → ℕ → ℕ → Random → Answer S A) → ℕ → ℕ → ℕ → ℕ → Random → Answer S A
  play_until p r test k zero made l g s = refused (no r) (tallied l (max g made) s)
  play_until p r test k (suc more) made zero g s = refused (out p) (tallied zero (max g made) s)
  play_until p r test k (suc more) made (suc l) g s =
      let here = k (low (next s)) (suc made) l (max g (suc made)) (next s) in
      let later = play_until p r test k more (suc made) l g (next s) in
      if test (low (next s)) then here else later

  -- with l draws left, the longest search so far being one of g
  unfoldable pub play : {A : Type 0} → Rule P R A → ℕ → ℕ → Random → Answer S A
  unfolding play_until
  play (give a) l g s = found a (tallied l g s)
  play (refuse r) l g s = refused (no r) (tallied l g s)
  play (draw p k) zero g s = refused (out p) (tallied zero g s)
  play (draw p k) (suc l) g s = play (k (low (next s))) l g (next s)
  play (draw_until p limit r test k) l g s = play_until p r test (λ v n. play (k v n)) limit 0 l g s

  abbrev pub play_on : {A : Type 0} → Rule P R A → Draws → Answer S A
  play_on m d = play m d.tally.left d.tally.longest d.random

-- an object's rule, its refusals and a spent draw by their numbers
abbrev pub on : {A : Type 0} → ObjectRule A → Draws → Answer ℕ A
on m d = play_on (λ p. spent_number) number m d

-- a search of an object's rule that has made `made` draws and may make `more`
abbrev pub on_until : {A : Type 0} → Refusal → (ℕ → Bool) → (ℕ → ℕ → ObjectRule A) → ℕ → ℕ → Draws → Answer ℕ A
on_until r test k more made d =
    play_until (λ p. spent_number) number (tt {0}) r test (λ v n. play (λ p. spent_number) number (k v n)) more made d.tally.left d.tally.longest d.random

-- the next value
abbrev pub value : {R : Type 0} → Rule (Unit {0}) R ℕ
value = draw tt give
