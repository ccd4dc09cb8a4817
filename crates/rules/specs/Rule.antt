-- The language of the conversion's rules. A rule is given a list of values and nothing else of the generator: each draw takes the
-- next one. Assumes nothing.
use Rattle.std.specs.Prelude.{if◌then◌else◌, ℕ, zero, suc, Bool, List, [], ◌∷◌}

-- A rule that ends in an A, or is refused with an R. Its draws stand at places P, which tell where the values ran out.
--   give a: it ends, with a.
--   refuse r: it is refused, with r.
--   draw p k: it takes the next value v, and goes on as k v; where there is none, it is spent at p.
--   draw_until p limit r test k: a search. It takes values up to and with the first, v, that passes the test, and goes on as k v n, where n is how many
--     it took; where it has taken `limit` of them and needs one more, it is refused with r; where they run out before that, it is spent at p.
pub data Rule (P R A : Type 0) : Type 0 where
  give : A → Rule P R A
  refuse : R → Rule P R A
  draw : P → (ℕ → Rule P R A) → Rule P R A
  draw_until : P → ℕ → R → (ℕ → Bool) → (ℕ → ℕ → Rule P R A) → Rule P R A

infixl 20 ◌>>=◌
-- One rule, and then another that goes by what the first gave. A `do` block is made of these.
unfoldable pub ◌>>=◌ : {P R A B : Type 0} → Rule P R A → (A → Rule P R B) → Rule P R B
give a >>= f = f a
refuse r >>= f = refuse r
draw p k >>= f = draw p (λ v. k v >>= f)
draw_until p limit r test k >>= f = draw_until p limit r test (λ v n. k v n >>= f)

-- the same rule, with its places and its refusals said in other words: a job adds the object's index to both
unfoldable pub label : {P Q R S A : Type 0} → (P → Q) → (R → S) → Rule P R A → Rule Q S A
label f g (give a) = give a
label f g (refuse r) = refuse (g r)
label f g (draw p k) = draw (f p) (λ v. label f g (k v))
label f g (draw_until p limit r test k) = draw_until (f p) limit (g r) test (λ v n. label f g (k v n))

-- How a rule ends, and how many values it took. `spent`: a draw needed a value, and none was left.
pub data Outcome (P R A : Type 0) : Type 0 where
  ended : A → ℕ → Outcome P R A
  refused : R → ℕ → Outcome P R A
  spent : P → ℕ → Outcome P R A

-- the same, with one value more taken before
unfoldable pub after : {P R A : Type 0} → Outcome P R A → Outcome P R A
after (ended a n) = ended a (suc n)
after (refused r n) = refused r (suc n)
after (spent p n) = spent p (suc n)

-- A search that has taken `made` values and may take `more`. Both branches are bound first, so that computing does not run the continuation at every
-- value left.
unfoldable pub drawing_until : {P R A : Type 0} → P → R → (ℕ → Bool) → (ℕ → ℕ → List ℕ → Outcome P R A) → ℕ → ℕ → List ℕ → Outcome P R A
drawing_until p r test k zero made vs = refused r 0
drawing_until p r test k (suc more) made [] = spent p 0
drawing_until p r test k (suc more) made (v ∷ vs) =
    let here = k v (suc made) vs in
    let later = drawing_until p r test k more (suc made) vs in
    after (if test v then here else later)

-- what a rule comes to on a list of values
unfoldable pub run : {P R A : Type 0} → Rule P R A → List ℕ → Outcome P R A
unfolding drawing_until
run (give a) vs = ended a 0
run (refuse r) vs = refused r 0
run (draw p k) [] = spent p 0
run (draw p k) (v ∷ vs) = after (run (k v) vs)
run (draw_until p limit r test k) vs = drawing_until p r test (λ v n. run (k v n)) limit 0 vs

-- how many values were taken
unfoldable pub taken : {P R A : Type 0} → Outcome P R A → ℕ
taken (ended a n) = n
taken (refused r n) = n
taken (spent p n) = n

-- it ended in another way than spent
abbrev pub Done : {P R A : Type 0} → Outcome P R A → Type 0
Done (ended a n) = Unit {0}
Done (refused r n) = Unit {0}
Done (spent p n) = ⊥
