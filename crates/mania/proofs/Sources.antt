-- Where 9 and 10 arise: a search without a valid column, and a column off the deck. Assumes nothing.
use Rattle.std.specs.Prelude.{if◌then◌else◌}
use mathlib.Core.Path.{◌≡◌, refl, sym, ap, subst}
use Prim.Native.Nat.{ℕ, zero, suc, ◌+◌, ◌-◌, ◌%◌, ◌≤◌, ◌<◌}
use native.Mathlib.Omega.{arith}
use mathlib.Core.Bool.{false}
use lib.Dec.{eqb, lit≤}
use borrow.Author.Tests.{lt-ltb, le-ltb}
use Rattle.rules.specs.Rule.{refuse}
use Rattle.rules.specs.Refusal.{Refusal, no_column, long_search, number}
use Rattle.model.specs.declared.Object.{Object}
use Rattle.model.specs.declared.Kind.{Kind}
use Rattle.model.specs.declared.Kind.TheVariants.{Circle, Slider, Spinner, Hold}
use Rattle.mania.specs.declared.Facts.{Facts}
use Rattle.mania.specs.declared.PrevValues.{PrevValues}
use Rattle.mania.specs.declared.Next.{Next}
use Rattle.mania.specs.declared.Next.TheVariants.{Draw, Step}
use Rattle.mania.specs.Pattern.{free, any_free, add}
use Rattle.mania.specs.PatternGenerator.{random_start, draw_to, search_on, column_search}
use Rattle.mania.specs.HitObject
use Rattle.mania.specs.Refusals.{NoneValid, Blocked, Below, Sources}
use Rattle.mania.proofs.Masks.{bit_taken}
use Rattle.mania.proofs.Meets.{Meets, giving, refusing, by, less, refused_meets}
use Rattle.mania.proofs.Searching.{steps_find}
use Rattle.mania.proofs.Conditions.{none_free}

-- ---- a search

-- where each column is taken none is free
all_taken : (mask c n : ℕ) → ((e : ℕ) → c ≤ e → e < c + n → free mask e ≡ false) → any_free mask c n ≡ false
unfolding any_free
all_taken mask c zero h = refl
all_taken mask c (suc n) h = rw (h c (omega arith) (omega arith)) (all_taken mask (suc c) n (λ e l m. h e (omega arith) (omega arith)))

none : (next : Next) (columns initial lower upper taken : ℕ) → NoneValid initial lower upper taken → column_search next columns initial lower upper taken ≡ refuse no_column
unfolding column_search
none next columns initial lower upper taken h = rw (h.first, all_taken taken lower (upper - lower) (λ e l m. h.range e l (omega arith)))

-- a refusal by 9 is that of a search without a valid column
abbrev Only : ℕ → ℕ → ℕ → ℕ → Refusal → Type 0
Only initial lower upper taken q = q ≡ no_column → NoneValid initial lower upper taken

long_not : {initial lower upper taken : ℕ} → Only initial lower upper taken long_search
long_not e = let z : ◌≡◌ {A = ℕ} 16 9 = ap number e in absurd (omega arith)

module _ (columns initial lower upper taken : ℕ) where
  none_valid : free taken initial ≡ false → any_free taken lower (upper - lower) ≡ false → NoneValid initial lower upper taken
  none_valid e f = record { first = e; range = λ c l m. bit_taken taken c (none_free taken lower (upper - lower) f c l (omega arith)) }

  by_search : Meets (Only initial lower upper taken) (λ s. Unit {0}) (search_on Draw columns initial lower upper taken)
  unfolding search_on draw_to
  by_search = record { ends = (long_not, λ v n l e. tt) }

  drawing : Meets (Only initial lower upper taken) (λ s. Unit {0}) (column_search Draw columns initial lower upper taken)
  unfolding column_search
  drawing =
      by (free taken initial) _ _ (λ e. giving tt)
      (λ e. by (any_free taken lower (upper - lower)) _ _ (λ f. by_search) (λ f. refusing (λ z. none_valid e f)))

stepping : (columns initial taken : ℕ) → random_start columns ≤ initial → initial < columns
    → Meets (Only initial (random_start columns) columns taken) (λ s. Unit {0}) (column_search Step columns initial (random_start columns) columns taken)
unfolding column_search search_on
stepping columns initial taken l m =
    by (free taken initial) _ _ (λ e. giving tt)
    (λ e. by (any_free taken (random_start columns) (columns - random_start columns)) _ _
    (λ f. less (steps_find (Only initial (random_start columns) columns taken) long_not columns taken initial (l, m) f) (λ s h. tt {0}) (λ q h. h))
    (λ f. refusing (λ z. none_valid columns initial (random_start columns) columns taken e f)))

-- ---- what they come to

-- columns 1 to 7
taken_254 : (c : ℕ) → 1 ≤ c → c < 8 → free 254 c ≡ false
unfolding free
taken_254 zero l m = absurd (omega arith)
taken_254 (suc zero) l m = refl
taken_254 (suc (suc zero)) l m = refl
taken_254 (suc (suc (suc zero))) l m = refl
taken_254 (suc (suc (suc (suc zero)))) l m = refl
taken_254 (suc (suc (suc (suc (suc zero))))) l m = refl
taken_254 (suc (suc (suc (suc (suc (suc zero)))))) l m = refl
taken_254 (suc (suc (suc (suc (suc (suc (suc zero))))))) l m = refl
taken_254 (suc (suc (suc (suc (suc (suc (suc (suc c)))))))) l m = absurd (omega arith)

off_254 : (columns mask : ℕ) → columns ≡ 8 → mask ≡ 254 → (c : ℕ) → random_start columns ≤ c → c < columns → NoneValid c (random_start columns) columns mask
unfolding random_start
off_254 columns mask e k =
    subst (λ (n : ℕ). (c : ℕ) → random_start n ≤ c → c < n → NoneValid c (random_start n) n mask) (sym e)
    (subst (λ (m : ℕ). (c : ℕ) → random_start 8 ≤ c → c < 8 → NoneValid c (random_start 8) 8 m) (sym k) of_8)
  where
    of_8 : (c : ℕ) → 1 ≤ c → c < 8 → NoneValid c 1 8 254
    of_8 c l m = record { first = taken_254 c l m; range = taken_254 }

blocked : (v : PrevValues) (columns : ℕ) (k : Kind) → Blocked v columns k → (c : ℕ) → random_start columns ≤ c → c < columns → NoneValid c (random_start columns) columns v.mask
unfolding Blocked
blocked v columns Circle h = absurd h
blocked v columns (Slider repeats distance sound) h = off_254 columns v.mask h.0 h.1
blocked v columns (Spinner duration) h = off_254 columns v.mask h.0 h.1
blocked v columns (Hold duration) h = off_254 columns v.mask h.0 h.1

before_0 : (columns last : ℕ) → columns ≡ 8 → last ≡ 0 → columns ≤ (if eqb last (random_start columns) then columns - 1 else (last + 255) % 256)
unfolding random_start
before_0 columns last e k = rw (e, k) (lit≤ tt)

below : (f : Facts) (v : PrevValues) (columns : ℕ) (o : Object) (k : Kind) → Below f v columns o k → columns ≤ HitObject.reverse_stair_column (HitObject.new f v columns o)
unfolding Below HitObject.reverse_stair_column HitObject.new
below f v columns o Circle h = before_0 columns v.last h.0 h.1
below f v columns o (Slider repeats distance sound) h = absurd h
below f v columns o (Spinner duration) h = absurd h
below f v columns o (Hold duration) h = absurd h

pub sources : Sources
unfolding add
sources =
    record {
      none = none;
      drawn = λ columns initial lower upper taken a n r e. refused_meets _ (drawing columns initial lower upper taken) a r no_column n e refl;
      stepped = λ columns initial taken a n r l m e. refused_meets _ (stepping columns initial taken l m) a r no_column n e refl;
      off = λ columns c note p h. rw (le-ltb c columns h);
      on = λ columns c note p h. rw (lt-ltb c columns h);
      blocked = blocked;
      below = below;
    }
