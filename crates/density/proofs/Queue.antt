-- The array of seven times as a queue: where there is room, where it is full, and its density. Assumes nothing.
use mathlib.Core.Path.{◌≡◌, refl, sym, ap, ◌∙◌}
use Prim.Native.Nat.{ℕ, zero, suc, ◌+◌, ◌-◌, ◌≤◌, ◌<◌}
use native.Mathlib.Nat.{le_of_suc-le-suc, not-suc-le-zero, add-zero, add-suc, zero-add, suc-add, sub-zero}
use native.Mathlib.Numerals.{add-one}
use native.Mathlib.Omega.{arith}
use mathlib.Core.List.{List, [], ◌∷◌, ◌++◌, append_assoc}
use mathlib.Core.Bool.{Bool, true, false}
use lib.Dec.{leb}
use borrow.Author.Tests.{lt-ltb, le-ltb, leb-true, leb-false}
use lib.Ieee.{Float, nan, binary64, sub, div}
use lib.ListN.{length, take, drop, set, get_or, length-append, length-drop}
use lib.Seq.{length-take-le, take-suc-set, take_all, get_or-take, drop-append-le, drop-drop, drop_at}
use Rattle.std.specs.List.{range_with_len}
use Rattle.model.specs.declared.Object.{Object}
use Rattle.mania.specs.Convert.{node_time, nodes}
use Rattle.mania.specs.Steps.{double#}
use Rattle.mania.specs.LimitedQueue as Queue
use Rattle.mania.specs.LimitedQueue.{last_seven, density_of, compute_density}
use Rattle.density.specs.declared.times.Density.{Density}
use Rattle.density.specs.Queued.{queued, pushed}

-- up to seven times all stay
last_few : (ts : List Float) → length ts ≤ 7 → ts ≡ last_seven ts
unfolding last_seven
last_few ts h = let e : length ts - 7 ≡ 0 = omega arith in rw e

pub room : (ts : List Float) (n : ℕ) (t : Float) → length ts ≡ 7 → n < 7 → take (n + 1) (set ts n t) ≡ last_seven (take n ts ++ t ∷ [])
room ts n t e h =
    let k : n < length ts = omega arith in
    let l : length (take n ts ++ t ∷ []) ≤ 7 = rw (length-append (take n ts) (t ∷ []), length-take-le n ts (omega arith)) (omega arith) in
    rw (add-one, take-suc-set) (last_few (take n ts ++ t ∷ []) l)

seven : (ts : List Float) (t : Float) → length ts ≡ 7
    → get_or ts 1 nan ∷ get_or ts 2 nan ∷ get_or ts 3 nan ∷ get_or ts 4 nan ∷ get_or ts 5 nan ∷ get_or ts 6 nan ∷ t ∷ [] ≡ last_seven (ts ++ t ∷ [])
unfolding last_seven
seven [] t h = absurd (omega arith)
seven (a ∷ []) t h = absurd (omega arith)
seven (a ∷ b ∷ []) t h = absurd (omega arith)
seven (a ∷ b ∷ c ∷ []) t h = absurd (omega arith)
seven (a ∷ b ∷ c ∷ d ∷ []) t h = absurd (omega arith)
seven (a ∷ b ∷ c ∷ d ∷ e ∷ []) t h = absurd (omega arith)
seven (a ∷ b ∷ c ∷ d ∷ e ∷ f ∷ []) t h = absurd (omega arith)
seven (a ∷ b ∷ c ∷ d ∷ e ∷ f ∷ g ∷ []) t h = refl
seven (a ∷ b ∷ c ∷ d ∷ e ∷ f ∷ g ∷ z ∷ ts) t h = absurd (omega arith)

pub full : (ts : List Float) (n : ℕ) (t : Float) → length ts ≡ 7 → 7 ≤ n
    → get_or ts 1 nan ∷ get_or ts 2 nan ∷ get_or ts 3 nan ∷ get_or ts 4 nan ∷ get_or ts 5 nan ∷ get_or ts 6 nan ∷ t ∷ [] ≡ last_seven (take n ts ++ t ∷ [])
full ts n t e h = let l : length ts ≤ n = omega arith in rw (take_all n ts l) (seven ts t e)

-- an element that is there
there : (ts : List Float) (i : ℕ) (x y : Float) → i < length ts → get_or ts i x ≡ get_or ts i y
there [] i x y h = absurd (not-suc-le-zero h)
there (t ∷ ts) zero x y h = refl
there (t ∷ ts) (suc i) x y h = there ts i x y (le_of_suc-le-suc h)

module _ (ts : List Float) (n : ℕ) (old : Float) (e : length ts ≡ 7) (h : n ≤ 7) where
  long : length (take n ts) ≡ n
  long = length-take-le n ts (omega arith)

  pub few_times : n < 2 → old ≡ density_of (take n ts) old
  unfolding density_of
  few_times k = rw (long, lt-ltb n 2 k)

  pub density_is : 2 ≤ n → div binary64 (sub binary64 (get_or ts (n - 1) nan) (get_or ts 0 nan)) (double# n) ≡ density_of (take n ts) old
  unfolding density_of
  density_is k =
      let a : get_or ts (n - 1) nan ≡ get_or (take n ts) (n - 1) old = there ts (n - 1) nan old (omega arith) ∙ sym (get_or-take n ts (n - 1) old (omega arith)) in
      let b : get_or ts 0 nan ≡ get_or (take n ts) 0 old = there ts 0 nan old (omega arith) ∙ sym (get_or-take n ts 0 old (omega arith)) in
      rw (long, le-ltb n 2 k, a, b)

-- the density anew, of the times pushed
pub computed : (p : Density) (q : Queue.Density) (time v : Float) → queued p ≡ pushed time q → v ≡ density_of (take p.len p.times) p.value
    → queued (record { times = p.times; len = p.len; value = v; held = p.held }) ≡ compute_density time q
unfolding queued pushed compute_density
computed p q time v e k = rw k (ap anew e)
  where
    anew : Queue.Density → Queue.Density
    anew x = record { times = x.times; value = density_of x.times x.value }

-- the nodes of a list, one after the other
abbrev pub over : Object → ℕ → List ℕ → Queue.Density → Queue.Density
over o l [] d = d
over o l (n ∷ ns) d = over o l ns (compute_density (node_time o l n) d)

-- one more at its end
pub over_more : (o : Object) (l : ℕ) (ns : List ℕ) (n : ℕ) (d : Queue.Density) → over o l (ns ++ n ∷ []) d ≡ compute_density (node_time o l n) (over o l ns d)
over_more o l [] n d = refl
over_more o l (m ∷ ns) n d = over_more o l ns n (compute_density (node_time o l m) d)

-- k of them from n on
pub over_range : (o : Object) (l k n : ℕ) (d : Queue.Density) → over o l (range_with_len n k) d ≡ nodes o l k n d
unfolding nodes
over_range o l zero n d = refl
over_range o l (suc k) n d = rw (add-one n) (over_range o l k (suc n) (compute_density (node_time o l n) d))

-- ---- the last seven times are all that counts

-- the last seven of the last seven and one more
last_more : (ts : List Float) (t : Float) → last_seven (last_seven ts ++ t ∷ []) ≡ last_seven (ts ++ t ∷ [])
unfolding last_seven
last_more ts t =
    let k = length ts - 7 in
    let l : k ≤ length ts = omega arith in
    let e : length (drop k ts ++ t ∷ []) ≡ length ts - k + 1 = length-append (drop k ts) (t ∷ []) ∙ ap (λ (n : ℕ). n + 1) (length-drop k ts) in
    let f : k + (length ts - k + 1 - 7) ≡ length ts + 1 - 7 = omega arith in
    ap (λ (n : ℕ). drop (n - 7) (drop k ts ++ t ∷ [])) e
    ∙ ap (drop (length ts - k + 1 - 7)) (sym (drop-append-le k ts (t ∷ []) l))
    ∙ drop-drop (length ts - k + 1 - 7) k (ts ++ t ∷ [])
    ∙ ap (λ (n : ℕ). drop n (ts ++ t ∷ [])) f
    ∙ sym (ap (λ (n : ℕ). drop (n - 7) (ts ++ t ∷ [])) (length-append ts (t ∷ [])))

last_of : (ts us : List Float) → length us ≡ 7 → last_seven (ts ++ us) ≡ us
unfolding last_seven
last_of ts us e =
    let f : length (ts ++ us) - 7 ≡ length ts = omega (arith, length-append ts us) in
    ap (λ (n : ℕ). drop n (ts ++ us)) f ∙ drop_at ts us (length ts) refl

module _ (d : Queue.Density) (a b c u v w x : Float) where
  abbrev seven_times : List Float
  seven_times = a ∷ b ∷ c ∷ u ∷ v ∷ w ∷ x ∷ []

  abbrev six : Queue.Density
  six = compute_density w (compute_density v (compute_density u (compute_density c (compute_density b (compute_density a d)))))

  six_times : last_seven (six.times ++ x ∷ []) ≡ seven_times
  unfolding compute_density
  six_times = simp (last_more, append_assoc) (last_of d.times seven_times refl)

  -- seven times, whatever was before
  pub seven_after : compute_density x six ≡ record { times = seven_times; value = density_of seven_times nan }
  unfolding compute_density density_of
  seven_after = ap (λ (ts : List Float). record { times = ts; value = density_of ts six.value }) six_times

-- the nodes in two parts
nodes_from : (o : Object) (l j k n : ℕ) (d : Queue.Density) → nodes o l (j + k) n d ≡ nodes o l k (n + j) (nodes o l j n d)
unfolding nodes
nodes_from o l zero k n d = rw (zero-add k, add-zero n)
nodes_from o l (suc j) k n d = rw (suc-add j k, add-suc n j) (nodes_from o l j k (suc n) (compute_density (node_time o l n) d) ∙ rw (suc-add n j))

nodes_seven : (o : Object) (l n : ℕ) (d e : Queue.Density) → nodes o l 7 n d ≡ nodes o l 7 n e
unfolding nodes
nodes_seven o l n d e = seven_after d _ _ _ _ _ _ _ ∙ sym (seven_after e _ _ _ _ _ _ _)

-- the last seven nodes are enough
pub nodes_last : (o : Object) (l count : ℕ) (d : Queue.Density) → nodes o l (count - (count - 7)) (count - 7) d ≡ nodes o l count 0 d
nodes_last o l count d = go (leb 7 count) refl
  where
    go : (b : Bool) → leb 7 count ≡ b → nodes o l (count - (count - 7)) (count - 7) d ≡ nodes o l count 0 d
    go true h =
        let k = leb-true 7 count h in
        let e : count - (count - 7) ≡ 7 = omega arith in
        let f : count - 7 + 7 ≡ count = omega arith in
        ap (λ (n : ℕ). nodes o l n (count - 7) d) e
        ∙ nodes_seven o l (count - 7) d (nodes o l (count - 7) 0 d)
        ∙ ap (λ (n : ℕ). nodes o l 7 n (nodes o l (count - 7) 0 d)) (sym (zero-add (count - 7)))
        ∙ sym (nodes_from o l (count - 7) 7 0 d)
        ∙ ap (λ (n : ℕ). nodes o l n 0 d) f
    go false h =
        let k = leb-false 7 count h in
        let e : count - 7 ≡ 0 = omega arith in
        rw (e, sub-zero count)
