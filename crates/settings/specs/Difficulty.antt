-- The conversion difficulty of accepted settings is one that the single-object entry allows: finite and at most 12. Breaks can make it negative, so
-- the bounds are on sizes, whatever the sign. Assumes nothing.
use Rattle.std.specs.Prelude.{◌≡◌, ℕ, zero, suc, ◌+◌, ◌-◌, ◌*◌, ◌^◌, ◌<◌, ◌≤◌, min, Bool, true, false, cond, not, ◌&&◌, T, length, ℤ, pos, neg_ℤ, ◌≢◌, nat_lt, refl, Float}
use Rattle.std.proofs.Common.{sym, ap, ◌∙◌, subst, le_trans, le_of_eq, mul-one, mul-pos, mul_assoc, mul_comm, mul-le-mul, mul-le-mul_right, add-le-add, add-mul, arith, lt-ltb, ne_eqb, lit<, lit≤}
use Rattle.std.proofs.Math.Nat.{mul-mul-mul_comm}
use Rattle.std.specs.Bool.{beq}
use Rattle.std.specs.Float.{nan, inf, fin, Format, binary32, binary64}
use Rattle.std.specs.Float.Ieee.{prec, low, emax, up, down, round, units, odd, of_int, add, sum, mul, div, lt, le, eq, unlike}
use Rattle.std.specs.Float.Ieee.Bits.{is_true}
use Rattle.std.specs.Float.Ieee.Back.{round_whole}
use Rattle.std.specs.Float.Ieee.Exact.{HasValue}
use Rattle.std.specs.Float.Ieee.Fits.{up_pos, down_pos}
use Rattle.std.specs.Float.Ieee.Positive.{num, den}
use Rattle.std.specs.Float.Ieee.Scale.{finite}
use Rattle.model.specs.Limits.{most_entries, most_difficulty}
use Rattle.floats.specs.Whole.{whole, rounded, signed}
use Rattle.floats.specs.Laws.Values.{UpTo, le_not_lt, round_at_most}
use Rattle.floats.specs.declared.Way.TheVariants.{Cut}
use Rattle.model.specs.declared.Settings.{Settings}
use Rattle.model.specs.Song.{Song}
use Rattle.floats.specs.Least.{least, clamped}
use Rattle.mania.specs.Steps.{single, double, double#}
use Rattle.mania.specs.PatternGenerator.{or_ten_thousand, drain_time, difficulty_by, conversion_difficulty}
use Rattle.mania.specs.Convert.{difficulty_of}
use Rattle.mania.specs.Single.{allowed_difficulty}
use Rattle.settings.specs.Accepted.{Accepted}
use Rattle.settings.specs.Laws.{at_most_ten}

-- finite, and of a size of at most n
pub record Small (n : ℕ) (x : Float) : Type 0 where
  pub real : T (finite x)
  pub most : num x ≤ n * den x

pub small_of : (n : ℕ) (x : Float) → UpTo n x → Small n x
small_of n nan h = absurd h.size
small_of n (inf s) h = absurd h.size
small_of n (fin s m e) h = record { real = tt; most = h.high }

-- without its sign
abbrev plain : Float → Float
plain nan = nan
plain (inf s) = inf false
plain (fin s m e) = fin false m e

plain_small : (n : ℕ) (x : Float) → Small n (plain x) → Small n x
plain_small n nan h = h
plain_small n (inf s) h = absurd h.real
plain_small n (fin s m e) h = record { real = tt; most = h.most }

plain_odd : (d : ℕ) (s : Bool) (q k l : ℕ) → plain (odd d s q k l) ≡ odd d false q k l
unfolding odd
plain_odd d s zero k l = refl
plain_odd d s (suc q) k l = refl

plain_units : (f : Format) (s : Bool) (q k : ℕ) → plain (units f s q k) ≡ units f false q k
unfolding units
plain_units f s q k = go (nat_lt (q * 2 ^ k) (2 ^ (low f + suc (emax f)))) q
  where
    go : (b : Bool) (r : ℕ) → plain (cond b (odd (suc (prec f)) s r k (low f)) (inf s)) ≡ cond b (odd (suc (prec f)) false r k (low f)) (inf false)
    go false r = refl
    go true r = plain_odd (suc (prec f)) s r k (low f)

plain_round : (f : Format) (s : Bool) (a c : ℕ) → plain (round f s a c) ≡ round f false a c
unfolding round
plain_round f s a c = plain_units f s _ _

round_small : (f : Format) (s : Bool) (a c n : ℕ) → 0 < c → n ≤ 2 ^ prec f → a ≤ n * c → Small n (round f s a c)
round_small f s a c n C small h =
    plain_small n (round f s a c) (subst (Small n) (sym (plain_round f s a c)) (small_of n (round f false a c) (round_at_most f a c n C small h)))

-- ---- the operations

cross : (a b c d p q : ℕ) → a ≤ p * c → b ≤ q * d → a * b ≤ p * q * (c * d)
cross a b c d p q h k = le_trans (mul-le-mul h k) (le_of_eq (mul-mul-mul_comm p c q d))

pub mul_small : (f : Format) (x y : Float) (p q : ℕ) → Small p x → Small q y → p * q ≤ 2 ^ prec f → Small (p * q) (mul f x y)
unfolding mul
mul_small f nan y p q h k small = absurd h.real
mul_small f (inf s) y p q h k small = absurd h.real
mul_small f (fin s m e) nan p q h k small = absurd k.real
mul_small f (fin s m e) (inf t) p q h k small = absurd k.real
mul_small f (fin s m e) (fin t n d) p q h k small =
    round_small f (unlike s t) (m * up e * (n * up d)) (down e * down d) (p * q) (mul-pos (down_pos e) (down_pos d)) small
    (cross (m * up e) (n * up d) (down e) (down d) p q h.most k.most)

-- by a number of at least 1
pub record Large (y : Float) : Type 0 where
  pub real : T (finite y)
  pub least : den y ≤ num y

pub div_small : (f : Format) (x y : Float) (p : ℕ) → Small p x → Large y → p ≤ 2 ^ prec f → Small p (div f x y)
unfolding div
div_small f nan y p h k small = absurd h.real
div_small f (inf s) y p h k small = absurd h.real
div_small f (fin s m e) nan p h k small = absurd k.real
div_small f (fin s m e) (inf t) p h k small = absurd k.real
div_small f (fin s m e) (fin t n d) p h k small =
    let z : 0 < n * up d = go (n * up d) (down d) (down_pos d) k.least in
    let c : n * up d * down e ≡ down e * (n * up d) = mul_comm (n * up d) (down e) in
    rw (ne_eqb n 0 (λ (r : n ≡ 0). none n (up d) z r))
    (round_small f (unlike s t) (m * up e * down d) (n * up d * down e) p (mul-pos z (down_pos e)) small
    (le_trans (mul-le-mul h.most k.least) (le_of_eq (mul_assoc p (down e) (n * up d) ∙ ap (λ (w : ℕ). p * w) (sym c)))))
  where
    go : (a b : ℕ) → 0 < b → b ≤ a → 0 < a
    go a b g l = omega arith

    none : (a b : ℕ) → 0 < a * b → a ≢ 0
    none a b g r = omega (arith, ap (λ (w : ℕ). w * b) r)

sum_small : (f : Format) (s t : Bool) (a b c n : ℕ) → 0 < c → n ≤ 2 ^ prec f → a + b ≤ n * c → Small n (sum f s a t b c)
unfolding sum
sum_small f s t a b c n C small h = pick (beq s t) (nat_lt a b)
  where
    pick : (u v : Bool) → Small n (cond u (round f s (a + b) c) (cond v (round f t (b - a) c) (round f (s && nat_lt b a) (a - b) c)))
    pick true v = round_small f s (a + b) c n C small h
    pick false true = round_small f t (b - a) c n C small (omega arith)
    pick false false = round_small f (s && nat_lt b a) (a - b) c n C small (omega arith)

pub add_small : (f : Format) (x y : Float) (p q : ℕ) → Small p x → Small q y → p + q ≤ 2 ^ prec f → Small (p + q) (add f x y)
unfolding add
add_small f nan y p q h k small = absurd h.real
add_small f (inf s) y p q h k small = absurd h.real
add_small f (fin s m e) nan p q h k small = absurd k.real
add_small f (fin s m e) (inf t) p q h k small = absurd k.real
add_small f (fin s m e) (fin t n d) p q h k small =
    sum_small f s t (m * up e * down d) (n * up d * down e) (down e * down d) (p + q) (mul-pos (down_pos e) (down_pos d)) small
    (le_trans (add-le-add (first (m * up e) (down e) (down d) p h.most) (second (n * up d) (down d) (down e) q k.most)) (le_of_eq (sym (add-mul p q (down e * down d)))))
  where
    first : (a c d p : ℕ) → a ≤ p * c → a * d ≤ p * (c * d)
    first a c d p h = le_trans (mul-le-mul_right d h) (le_of_eq (mul_assoc p c d))

    second : (b d c q : ℕ) → b ≤ q * d → b * c ≤ q * (c * d)
    second b d c q h = le_trans (mul-le-mul_right c h) (le_of_eq (mul_assoc q d c ∙ ap (λ (w : ℕ). q * w) (mul_comm d c)))

-- ---- the numbers that go in

pub large_whole : (s : Bool) (n : ℕ) → suc n ≤ 2 ^ 53 → Large (round binary64 s (suc n) 1)
large_whole s n h = go (round binary64 s (suc n) 1) (round_whole binary64 s (suc n) h)
  where
    up_by : (a d : ℕ) → a * 1 ≡ suc n * d → d ≤ a
    up_by a d e = omega (arith, e, add-mul n 1 d, mul-le-mul_right d (least n))
      where
        least : (k : ℕ) → 1 ≤ suc k
        least k = omega arith

    go : (x : Float) → HasValue x s (suc n) 1 → Large x
    go nan v = absurd v
    go (inf t) v = absurd v
    go (fin t m e) v = record { real = tt; least = up_by (m * up e) (down e) v.1 }

-- a drain time is a whole number of seconds other than 0
signed_large : (s : Bool) (n : ℕ) → Large (of_int binary64 (or_ten_thousand (signed s n)))
unfolding of_int or_ten_thousand
signed_large true n = down_to (min n (2 ^ 31)) (most n)
  where
    most : (k : ℕ) → min k 2147483648 ≤ 9007199254740992
    most k = omega arith

    down_to : (k : ℕ) → k ≤ 2 ^ 53 → Large (of_int binary64 (or_ten_thousand (neg_ℤ (pos k))))
    down_to zero h = large_whole false 9999 (lit≤ tt)
    down_to (suc k) h = large_whole true k h
signed_large false n = up_to (min n (2 ^ 31 - 1)) (most n)
  where
    most : (k : ℕ) → min k 2147483647 ≤ 9007199254740992
    most k = omega arith

    up_to : (k : ℕ) → k ≤ 2 ^ 53 → Large (of_int binary64 (or_ten_thousand (pos k)))
    up_to zero h = large_whole false 9999 (lit≤ tt)
    up_to (suc k) h = large_whole false k h

large_drain : (x : Float) → Large (of_int binary64 (or_ten_thousand (whole Cut x)))
unfolding whole of_int or_ten_thousand
large_drain nan = large_whole false 9999 (lit≤ tt)
large_drain (inf s) = signed_large s (2 ^ 31)
large_drain (fin s m e) = signed_large s (rounded Cut s (m * up e) (down e))

small_whole : (n : ℕ) → n ≤ 2 ^ 53 → Small n (double n 1)
small_whole n h = round_small binary64 false n 1 n (lit< tt) h (le_of_eq (sym (mul-one n)))

pub small_int : (n : ℕ) → n ≤ 2 ^ 53 → Small n (double# n)
unfolding of_int
small_int n h = small_whole n h

large_three_halves : Large (double 3 2)
unfolding round
large_three_halves = record { real = tt; least = lit≤ tt }

large_38 : Large (double 38 1)
large_38 = large_whole false 37 (lit≤ tt)

large_115 : Large (double 115 100)
unfolding round
large_115 = record { real = tt; least = lit≤ tt }

small_clamped : (x : Float) → Small 10 x → Small 10 (clamped (single 4 1) (single 7 1) x)
unfolding clamped
small_clamped x h = pick (lt x (single 4 1)) (lt (single 7 1) x)
  where
    pick : (a b : Bool) → Small 10 (cond a (single 4 1) (cond b (single 7 1) x))
    pick true b = round_small binary32 false 4 1 10 (lit< tt) (lit≤ tt) (lit≤ tt)
    pick false true = round_small binary32 false 7 1 10 (lit< tt) (lit≤ tt) (lit≤ tt)
    pick false false = h

-- ---- the least with 12

negative_le : (m n : ℕ) (e d : ℤ) → 0 < n → T (le (fin true m e) (fin false n d))
unfolding le lt eq
negative_le m n e d h =
    let a = m * up e * down d in
    let b = n * up d * down e in
    let k : 0 < b = mul-pos (mul-pos h (up_pos d)) (down_pos e) in
    rw (lt-ltb 0 (a + b) (go a b k)) tt
  where
    go : (a b : ℕ) → 0 < b → 0 < a + b
    go a b k = omega arith

not_above : (x : Float) → T (finite x) → lt most_difficulty x ≡ false → T (le x most_difficulty)
unfolding round
not_above nan f h = absurd f
not_above (inf s) f h = absurd f
not_above (fin true m e) f h = negative_le m 3 e (pos 2) (lit< tt)
not_above (fin false m e) f h =
    let x = fin false m e in
    let y = fin false 3 (pos 2) in
    subst T (sym (le_not_lt x y (num x) (den x) (num y) (den y) (refl, refl) (refl, refl) ∙ ap not h)) tt

twelve : allowed_difficulty most_difficulty ≡ true
unfolding allowed_difficulty round le lt eq
twelve = refl

least_twelve : (x : Float) → T (finite x) → allowed_difficulty (least x most_difficulty) ≡ true
unfolding least allowed_difficulty
least_twelve x f = pick (lt most_difficulty x) refl
  where
    pick : (b : Bool) → lt most_difficulty x ≡ b → allowed_difficulty (cond b most_difficulty x) ≡ true
    pick true h = twelve
    pick false h = rw (is_true (finite x) f) (is_true (le x most_difficulty) (not_above x f h))

-- a record has at most 4,095 objects
difficulty_by_law : (s : Settings) (breaks first last : Float) (objects : ℕ) → Accepted s → objects ≤ most_entries → allowed_difficulty (difficulty_by s breaks first last objects) ≡ true
unfolding difficulty_by drain_time
difficulty_by_law s breaks first last objects a h =
    let hp = small_of 10 s.hp (at_most_ten s.hp a.hp) in
    let ar = small_clamped s.ar (small_of 10 s.ar (at_most_ten s.ar a.ar)) in
    let life = div_small binary64 _ (double 3 2) 20 (add_small binary32 s.hp _ 10 10 hp ar (lit≤ tt)) large_three_halves (lit≤ tt) in
    let n = more (small_int objects (le_trans h (lit≤ tt))) in
    let pace = mul_small binary64 _ (double 9 1) most_entries 9 (div_small binary64 (double# objects) _ most_entries n (large_drain _) (lit≤ tt)) (small_whole 9 (lit≤ tt)) (lit≤ tt) in
    let both = add_small binary64 _ _ 20 36855 life pace (lit≤ tt) in
    let x = mul_small binary64 _ (double 5 1) 36875 5 (div_small binary64 _ (double 38 1) 36875 both large_38 (lit≤ tt)) (small_whole 5 (lit≤ tt)) (lit≤ tt) in
    least_twelve _ (div_small binary64 _ (double 115 100) 184375 x large_115 (lit≤ tt)).real
  where
    more : Small objects (double# objects) → Small most_entries (double# objects)
    more k = record { real = k.real; most = le_trans k.most (mul-le-mul_right (den (double# objects)) h) }

pub difficulty_allowed : (s : Song) → Accepted s.settings → length s.objects ≤ most_entries → allowed_difficulty (difficulty_of s) ≡ true
unfolding difficulty_of conversion_difficulty
difficulty_allowed s a h = difficulty_by_law s.settings _ _ _ _ a h
