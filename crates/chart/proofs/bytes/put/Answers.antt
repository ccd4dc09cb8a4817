-- `chart::bytes::put` meets its contract. The invariant: the bytes from the i-th on are stored, and those before it are the bytes of x (`Stored`).
-- Assumes nothing.
use mathlib.Core.Path.{◌≡◌, sym, ap, ◌∙◌}
use mathlib.Core.List.{List, [], ◌∷◌, ◌++◌, append_assoc, append-nil}
use Prim.Native.Nat.{ℕ, suc, ◌+◌, ◌-◌, ◌/◌, ◌%◌, ◌≤◌, ◌<◌}
use native.Mathlib.Nat.{add-zero}
use native.Mathlib.Omega.{arith}
use lib.ListN.{length, set}
use borrow.Author.Rules.{rules}
use Rattle.chart.specs.Bytes.{be, splice}
use Rattle.chart.specs.Laws.Bytes.{be_suc, be_zero, splice_none, splice_before}
use Rattle.chart.proofs.bytes.put.Goals as goal
use Rattle.chart.proofs.bytes.put.Invariants.{Stored}

stored-none : (s : List ℕ) (at size value : ℕ) → at + size ≤ length s → Stored s at size value s value size
stored-none s at size value h =
    record { tail = []; wide = omega arith; bytes = sym (append-nil (be size value)); is = sym (splice_none s (at + size) h) }

stored_more : (s₀ : List ℕ) (at size value : ℕ) (s : List ℕ) (x i : ℕ) → at + size ≤ length s₀ → 0 < i → i ≤ size → Stored s₀ at size value s x i
    → Stored s₀ at size value (set s (at + (i - 1)) (x % 256)) (x / 256) (i - 1)
stored_more s₀ at size value s x i room some within st =
    let one : i ≡ suc (i - 1) = omega arith in
    let j : at + i ≡ at + (i - 1) + 1 = omega arith in
    let wider : at + (i - 1) + 1 + length st.tail ≤ length s₀ = omega (arith, st.wide) in
    record {
      tail = x % 256 ∷ st.tail;
      wide = omega (arith, st.wide);
      bytes = st.bytes ∙ ap (λ (k : ℕ). be k x ++ st.tail) one ∙ rw (be_suc (i - 1) x) (append_assoc (be (i - 1) (x / 256)) (x % 256 ∷ []) st.tail);
      is = ap (λ (t : List ℕ). set t (at + (i - 1)) (x % 256)) (st.is ∙ ap (λ (k : ℕ). splice s₀ k st.tail) j) ∙ splice_before s₀ (at + (i - 1)) (x % 256) st.tail wider;
    }

stored-all : (s₀ : List ℕ) (at size value : ℕ) (s : List ℕ) (x i : ℕ) → i ≡ 0 → Stored s₀ at size value s x i → s ≡ splice s₀ at (be size value)
stored-all s₀ at size value s x i e st =
    let bytes : be size value ≡ st.tail = st.bytes ∙ rw (e, be_zero x) in
    rw bytes (st.is ∙ rw (e, add-zero at))

pub loop-i-init : goal.loop-i-init
loop-i-init c = let a = c.args in stored-none a.s.now a.at a.size a.value c.requires

pub loop-i-preserved : goal.loop-i-preserved
loop-i-preserved c =
    let a = c.args in
    stored_more a.s.now a.at a.size a.value c.loop-i.s c.loop-i.x c.loop-i.i (search rules) (search rules) (search rules) c.loop-i.invariant

pub returns : goal.returns
returns c =
    let a = c.args in
    stored-all a.s.now a.at a.size a.value c.loop-i.s c.loop-i.x c.loop-i.i (omega arith) c.loop-i.invariant
