-- One entry of a list: the turn of a loop over the list; how many entries a list has. Assumes nothing.
use Rattle.std.specs.Prelude.{◌≡◌, refl, ◌∷◌, Float, length}
use Rattle.std.proofs.Common.{sym, ap}
use Prim.Native.Nat.{ℕ, zero, suc, ◌+◌, ◌-◌, ◌<◌}
use native.Mathlib.Omega.{arith}
use Rattle.rules.specs.declared.Refusal.{Refusal}
use Rattle.rules.specs.Coded.{code}
use Rattle.record.specs.Refusal.{entries_refusal, entries, entries_end}
use Rattle.rules.specs.Laws.Coded.{code_some}
use Rattle.record.specs.Laws.Row.{then_some, then_skip}

module _ (entry : ℕ → Float → ℕ) (next : ℕ → ℕ) (key : ℕ → Float) (p : ℕ) (before : Float) where
  -- a refused entry is the list's refusal
  pub entries_stop : (n r : ℕ) → 0 < n → r ≡ entry p before → (r ≡ 0 → ⊥) → r ≡ entries_refusal entry next key p before n
  unfolding entries_refusal
  entries_stop zero r h e x = absurd (omega arith)
  entries_stop (suc n) r h e x = rw (← e) (then_some r _ x)

  -- after an entry that is not refused, the list is the rest
  pub entries_next : (n : ℕ) → 0 < n → entry p before ≡ 0 → entries_refusal entry next key p before n ≡ entries_refusal entry next key (next p) (key p) (n - 1)
  unfolding entries_refusal
  entries_next zero h e = absurd (omega arith)
  entries_next (suc n) h e =
      let k : suc n - 1 ≡ n = omega arith in
      rw (k, then_skip _ _ e)

  -- the same as a loop over the entries has it: the refusal that comes, and the entries left after one that passes
  pub list_stop : (n : ℕ) (r : Refusal) → 0 < n → code r ≡ entry p before → entries_refusal entry next key p before n ≡ code r
  list_stop n r h e = sym (entries_stop n (code r) h e (code_some r))

  pub list_next : (n m : ℕ) → n ≡ m + 1 → 0 ≡ entry p before → entries_refusal entry next key p before n ≡ entries_refusal entry next key (next p) (key p) m
  list_next n m h e =
      let k : n - 1 ≡ m = omega arith in
      rw k at (entries_next n (omega arith) (sym e))

  pub list_done : (n : ℕ) → n ≡ 0 → entries_refusal entry next key p before n ≡ 0
  unfolding entries_refusal
  list_done n h = rw h

-- a list that is not empty is its first entry, and the entries from its end on
pub entries_cons : {A : Type 0} (entry : ℕ → A) (next : ℕ → ℕ) (p n : ℕ) → 0 < n → entries entry next p n ≡ entry p ∷ entries entry next (next p) (n - 1)
unfolding entries
entries_cons entry next p zero h = absurd (omega arith)
entries_cons entry next p (suc n) h =
    let k : suc n - 1 ≡ n = omega arith in
    rw k

pub end_next : (next : ℕ → ℕ) (p n : ℕ) → 0 < n → entries_end next p n ≡ entries_end next (next p) (n - 1)
unfolding entries_end
end_next next p zero h = absurd (omega arith)
end_next next p (suc n) h =
    let k : suc n - 1 ≡ n = omega arith in
    rw k

pub length_entries : {A : Type 0} (entry : ℕ → A) (next : ℕ → ℕ) (p n : ℕ) → length (entries entry next p n) ≡ n
unfolding entries
length_entries entry next p zero = refl
length_entries entry next p (suc n) = ap suc (length_entries entry next (next p) n)
