-- A rule played from a state: one draw at a time, two rules in a row, under a label, and on the list of values instead. Assumes nothing.
use Rattle.std.specs.Prelude.{◌≡◌, Bool, true, false, if◌then◌else◌}
use Rattle.std.proofs.Math.Path.{refl, ap, ap₂}
use Rattle.std.proofs.Common.{sym, ◌∙◌, arith}
use Prim.Native.Nat.{ℕ, zero, suc, ◌-◌, max}
use Rattle.std.proofs.Math.Nat.{sub-zero, suc-sub-suc, max-zero}
use Rattle.rules.specs.Rule.{Rule, give, refuse, draw, draw_until, ◌>>=◌, label, Outcome, ended, spent, after, drawing_until, run}
use Rattle.rules.specs.Rule as Rule
use Rattle.rules.specs.Ledger.{Ledger, after_search, ledger_until, ledger, largest, longest}
use Rattle.random.specs.Generator.{next, low, values, steps}
use Rattle.random.specs.Play.{Answer, found, refused, tallied, searched, play_until, play, play_on}
use Rattle.random.specs.declared.Random.{Random}
use Rattle.random.specs.declared.Draws.{Draws}

pub one_less : (l : ℕ) → suc l - 1 ≡ l
one_less l = omega arith

-- the longest search of a ledger and of the searches before, the longest of which made g
abbrev most : ℕ → Ledger → ℕ
most g b = max g (largest b.searches)

most_search : (g n : ℕ) (b : Ledger) → most (max g n) b ≡ most g (after_search n b)
unfolding largest
most_search g n b = omega arith

-- what is said of a draw with no value left, and of a refusal
module _ {P R S : Type 0} (out : P → S) (no : R → S) where
  -- ---- one draw

  module _ {A : Type 0} (p : P) (k : ℕ → Rule P R A) where
    pub draw_none : (d : Draws) → d.tally.left ≡ 0 → play_on out no (draw p k) d ≡ refused (out p) d
    unfolding play
    draw_none d = go d.tally.left d.tally.longest d.random
      where
        go : (l g : ℕ) (s : Random) → l ≡ 0 → play out no (draw p k) l g s ≡ refused (out p) (tallied l g s)
        go zero g s h = refl
        go (suc l) g s h = absurd (omega arith)

    pub draw_some : (l g : ℕ) (s : Random) → (l ≡ 0 → ⊥) → play out no (draw p k) l g s ≡ play out no (k (low (next s))) (l - 1) g (next s)
    unfolding play
    draw_some zero g s h = absurd (h refl)
    draw_some (suc l) g s h = rw (one_less l)

  -- ---- one draw of a search

  module _ {A : Type 0} (p : P) (r : R) (test : ℕ → Bool) (k : ℕ → ℕ → Rule P R A) where
    abbrev pub searching : ℕ → ℕ → Draws → Answer S A
    searching more made d = play_until out no p r test (λ v n. play out no (k v n)) more made d.tally.left d.tally.longest d.random

    pub until_limit : (more made : ℕ) (d : Draws) → more ≡ 0 → searching more made d ≡ refused (no r) (searched made d)
    unfolding play_until searched
    until_limit more made d h = rw h

    pub until_none : (more made : ℕ) (d : Draws) → (more ≡ 0 → ⊥) → d.tally.left ≡ 0 → searching more made d ≡ refused (out p) (searched made d)
    unfolding play_until searched
    until_none more made d = go more d.tally.left d.tally.longest d.random
      where
        go : (more l g : ℕ) (s : Random) → (more ≡ 0 → ⊥) → l ≡ 0 → searching more made (tallied l g s) ≡ refused (out p) (tallied l (max g made) s)
        go zero l g s m h = absurd (m refl)
        go (suc more) zero g s m h = refl
        go (suc more) (suc l) g s m h = absurd (omega arith)

    pub until_some : (more made l g : ℕ) (s : Random) → (more ≡ 0 → ⊥) → (l ≡ 0 → ⊥)
        → searching more made (tallied l g s)
        ≡ (if test (low (next s)) then play_on out no (k (low (next s)) (suc made)) (searched (suc made) (tallied (l - 1) g (next s)))
        else searching (more - 1) (suc made) (tallied (l - 1) g (next s)))
    unfolding play_until searched
    until_some zero made l g s m h = absurd (m refl)
    until_some (suc more) made zero g s m h = absurd (h refl)
    until_some (suc more) made (suc l) g s m h = rw (one_less l, one_less more)

  -- ---- two rules in a row

  abbrev pub follow : {A B : Type 0} → Answer S A → (A → Rule P R B) → Answer S B
  follow (found a d) f = play_on out no (f a) d
  follow (refused x d) f = refused x d

  module _ {A B : Type 0} (f : A → Rule P R B) where
    follow_if : (b : Bool) (x y : Answer S A) → (if b then follow x f else follow y f) ≡ follow (if b then x else y) f
    follow_if true x y = refl
    follow_if false x y = refl

    until_bind : (p : P) (r : R) (test : ℕ → Bool) (k : ℕ → ℕ → Rule P R A)
        → ((v n l g : ℕ) (s : Random) → play out no (k v n >>= f) l g s ≡ follow (play out no (k v n) l g s) f)
        → (more made l g : ℕ) (s : Random) → play_until out no p r test (λ v n. play out no (k v n >>= f)) more made l g s
        ≡ follow (play_until out no p r test (λ v n. play out no (k v n)) more made l g s) f
    unfolding play_until
    until_bind p r test k h zero made l g s = refl
    until_bind p r test k h (suc more) made zero g s = refl
    until_bind p r test k h (suc more) made (suc l) g s =
        let v = low (next s) in
        ap₂ (λ (a b : Answer S B). if test v then a else b) (h v (suc made) l (max g (suc made)) (next s)) (until_bind p r test k h more (suc made) l g (next s))
        ∙ follow_if (test v) (play out no (k v (suc made)) l (max g (suc made)) (next s)) (play_until out no p r test (λ v n. play out no (k v n)) more (suc made) l g (next s))

    pub play_bind : (m : Rule P R A) (l g : ℕ) (s : Random) → play out no (m >>= f) l g s ≡ follow (play out no m l g s) f
    unfolding play ◌>>=◌
    play_bind (give a) l g s = refl
    play_bind (refuse r) l g s = refl
    play_bind (draw p k) zero g s = refl
    play_bind (draw p k) (suc l) g s = play_bind (k (low (next s))) l g (next s)
    play_bind (draw_until p limit r test k) l g s = until_bind p r test k (λ v n. play_bind (k v n)) limit 0 l g s

    pub bind_on : (m : Rule P R A) (d : Draws) → play_on out no (m >>= f) d ≡ follow (play_on out no m d) f
    bind_on m d = play_bind m d.tally.left d.tally.longest d.random

  module _ {A B : Type 0} (m : Rule P R A) (f : A → Rule P R B) (d : Draws) where
    pub found_bind : (a : A) (e : Draws) → play_on out no m d ≡ found a e → play_on out no (m >>= f) d ≡ play_on out no (f a) e
    found_bind a e h = bind_on f m d ∙ rw h

    pub refused_bind : (x : S) (e : Draws) → play_on out no m d ≡ refused x e → play_on out no (m >>= f) d ≡ refused x e
    refused_bind x e h = bind_on f m d ∙ rw h

  -- a rule of two rules in a row, and then a third
  module _ {A B C : Type 0} (m : Rule P R A) (k : A → Rule P R B) (f : B → Rule P R C) (d : Draws) where
    pub bind_assoc : play_on out no ((m >>= k) >>= f) d ≡ play_on out no (m >>= (λ a. k a >>= f)) d
    bind_assoc =
        bind_on f (m >>= k) d
        ∙ ap (λ (r : Answer S B). follow r f) (bind_on k m d)
        ∙ go (play_on out no m d)
        ∙ sym (bind_on (λ a. k a >>= f) m d)
      where
        go : (r : Answer S A) → follow (follow r k) f ≡ follow r (λ a. k a >>= f)
        go (found a e) = sym (bind_on f (k a) e)
        go (refused x e) = refl

  -- ---- on the list of values

  -- an outcome on the values of l steps from s, with the draws as they are then: the longest search has made g
  unfoldable pub placed : {A : Type 0} → ℕ → ℕ → Random → Outcome P R A → Answer S A
  placed l g s (ended a n) = found a (tallied (l - n) g (steps n s))
  placed l g s (Rule.refused r n) = refused (no r) (tallied (l - n) g (steps n s))
  placed l g s (spent p n) = refused (out p) (tallied (l - n) g (steps n s))

  module _ {A : Type 0} where
    placed_after : (l g : ℕ) (s : Random) (o : Outcome P R A) → placed l g (next s) o ≡ placed (suc l) g s (after o)
    unfolding placed after steps
    placed_after l g s (ended a n) = rw suc-sub-suc
    placed_after l g s (Rule.refused r n) = rw suc-sub-suc
    placed_after l g s (spent p n) = rw suc-sub-suc

    placed_if : (l g n : ℕ) (s : Random) (b : Bool) (x y : Outcome P R A) (c d : Ledger)
        → (if b then placed l (most (max g n) c) s x else placed l (most g d) s y) ≡ placed l (most g (if b then after_search n c else d)) s (if b then x else y)
    placed_if l g n s true x y c d = ap (λ (k : ℕ). placed l k s x) (most_search g n c)
    placed_if l g n s false x y c d = refl

    until_run : (p : P) (r : R) (test : ℕ → Bool) (k : ℕ → ℕ → Rule P R A)
        → ((v n l g : ℕ) (s : Random) → play out no (k v n) l g s ≡ placed l (most g (ledger (k v n) (values l s))) s (run (k v n) (values l s)))
        → (more made l g : ℕ) (s : Random) → play_until out no p r test (λ v n. play out no (k v n)) more made l g s
        ≡ placed l (most g (ledger_until test (λ v n. ledger (k v n)) more made (values l s))) s (drawing_until p r test (λ v n. run (k v n)) more made (values l s))
    unfolding play_until drawing_until ledger_until values placed steps largest
    until_run p r test k h zero made l g s = rw (sub-zero l, max-zero made)
    until_run p r test k h (suc more) made zero g s = rw (sub-zero 0, max-zero made)
    until_run p r test k h (suc more) made (suc l) g s =
        let v = low (next s) in
        let a = run (k v (suc made)) (values l (next s)) in
        let b = drawing_until p r test (λ v n. run (k v n)) more (suc made) (values l (next s)) in
        let c = ledger (k v (suc made)) (values l (next s)) in
        let d = ledger_until test (λ v n. ledger (k v n)) more (suc made) (values l (next s)) in
        ap₂ (λ (y z : Answer S A). if test v then y else z) (h v (suc made) l (max g (suc made)) (next s)) (until_run p r test k h more (suc made) l g (next s))
        ∙ placed_if l g (suc made) (next s) (test v) a b c d
        ∙ placed_after l (most g (if test v then after_search (suc made) c else d)) s (if test v then a else b)

    -- a rule played from a state with l draws left is the rule run on the values of the first l steps
    pub play_run : (m : Rule P R A) (l g : ℕ) (s : Random) → play out no m l g s ≡ placed l (max g (longest m (values l s))) s (run m (values l s))
    unfolding play run ledger values placed steps largest
    play_run (give a) l g s = rw (sub-zero l, max-zero g)
    play_run (refuse r) l g s = rw (sub-zero l, max-zero g)
    play_run (draw p k) zero g s = rw (sub-zero 0, max-zero g)
    play_run (draw p k) (suc l) g s =
        play_run (k (low (next s))) l g (next s) ∙ placed_after l (max g (longest (k (low (next s))) (values l (next s)))) s (run (k (low (next s))) (values l (next s)))
    play_run (draw_until p limit r test k) l g s = until_run p r test k (λ v n. play_run (k v n)) limit 0 l g s

-- ---- under a label: what is said of the labelled rule is h of what is said of the rule

module _ {P Q R R' S S' : Type 0} (out : P → S) (no : R → S) (out' : Q → S') (no' : R' → S') (f : P → Q) (g : R → R') (h : S → S')
    (outs : (p : P) → out' (f p) ≡ h (out p)) (nos : (r : R) → no' (g r) ≡ h (no r)) where
  abbrev relabel : {A : Type 0} → Answer S A → Answer S' A
  relabel (found a d) = found a d
  relabel (refused x d) = refused (h x) d

  module _ {A : Type 0} where
    relabel_if : (b : Bool) (x y : Answer S A) → (if b then relabel x else relabel y) ≡ relabel (if b then x else y)
    relabel_if true x y = refl
    relabel_if false x y = refl

    until_label : (p : P) (r : R) (test : ℕ → Bool) (k : ℕ → ℕ → Rule P R A)
        → ((v n l t : ℕ) (s : Random) → play out' no' (label f g (k v n)) l t s ≡ relabel (play out no (k v n) l t s))
        → (more made l t : ℕ) (s : Random) → play_until out' no' (f p) (g r) test (λ v n. play out' no' (label f g (k v n))) more made l t s
        ≡ relabel (play_until out no p r test (λ v n. play out no (k v n)) more made l t s)
    unfolding play_until
    until_label p r test k i zero made l t s = ap (λ (x : S'). refused x (tallied l (max t made) s)) (nos r)
    until_label p r test k i (suc more) made zero t s = ap (λ (x : S'). refused x (tallied zero (max t made) s)) (outs p)
    until_label p r test k i (suc more) made (suc l) t s =
        let v = low (next s) in
        ap₂ (λ (a b : Answer S' A). if test v then a else b) (i v (suc made) l (max t (suc made)) (next s)) (until_label p r test k i more (suc made) l t (next s))
        ∙ relabel_if (test v) (play out no (k v (suc made)) l (max t (suc made)) (next s)) (play_until out no p r test (λ v n. play out no (k v n)) more (suc made) l t (next s))

    play_label : (m : Rule P R A) (l t : ℕ) (s : Random) → play out' no' (label f g m) l t s ≡ relabel (play out no m l t s)
    unfolding play label
    play_label (give a) l t s = refl
    play_label (refuse r) l t s = ap (λ (x : S'). refused x (tallied l t s)) (nos r)
    play_label (draw p k) zero t s = ap (λ (x : S'). refused x (tallied zero t s)) (outs p)
    play_label (draw p k) (suc l) t s = play_label (k (low (next s))) l t (next s)
    play_label (draw_until p limit r test k) l t s = until_label p r test k (λ v n. play_label (k v n)) limit 0 l t s

    pub found_label : (m : Rule P R A) (d : Draws) (a : A) (e : Draws) → play_on out no m d ≡ found a e → play_on out' no' (label f g m) d ≡ found a e
    found_label m d a e i = play_label m d.tally.left d.tally.longest d.random ∙ rw i

    pub refused_label : (m : Rule P R A) (d : Draws) (x : S) (e : Draws) → play_on out no m d ≡ refused x e → play_on out' no' (label f g m) d ≡ refused (h x) e
    refused_label m d x e i = play_label m d.tally.left d.tally.longest d.random ∙ rw i
