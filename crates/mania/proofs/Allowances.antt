-- Demand 3's half on draws, from the law that holds of every rule. Assumes nothing.
use mathlib.Core.Path.{◌≡◌, refl, ap, ap₂}
use Prim.Native.Nat.{ℕ, ◌≤◌, ◌<◌}
use native.Mathlib.Omega.{arith}
use mathlib.Core.List.{List}
use lib.ListN.{length}
use Rattle.rules.specs.Rule.{Outcome, ended, refused, spent, run, Done}
use Rattle.rules.specs.Ledger.{Ledger, largest}
use Rattle.rules.specs.Refusal.{Refusal, late_end, no_column, off_deck, too_short, number, spent_number, long_search}
use Rattle.random.specs.Generator.{values, seeded}
use Rattle.random.specs.Laws.Allowance.{lawful, same_searches}
use Rattle.mania.specs.declared.Note.{Note}
use Rattle.model.specs.Song.{Song}
use Rattle.mania.specs.Convert.{AtObject, seed, columns_of, convert}
use Rattle.mania.specs.Job.{Answer, accepted, refusal, Job, ending, refusing, under, ledger_under, job}
use Rattle.mania.specs.Demand.{draws, Other}

-- no refusal of a rule has the number of a spent draw
pub not_spent : (r : Refusal) → number r ≡ spent_number → ⊥
not_spent late_end e = omega arith
not_spent no_column e = omega arith
not_spent off_deck e = omega arith
not_spent too_short e = omega arith
not_spent long_search e = omega arith

-- ---- the number of an answer

abbrev number_of : Answer → ℕ
number_of (accepted n g) = 0
number_of (refusal r i n) = r

abbrev count : Answer → ℕ
count (accepted n g) = 0
count (refusal r i n) = n

module _ (columns : ℕ) (buffer : List ℕ) (longest : ℕ) where
  other_done : (o : Outcome ℕ AtObject (List (List Note))) → Other (ending columns buffer longest o) → Done o
  unfolding ending refusing Other
  other_done (ended a n) k = tt
  other_done (refused r n) k = tt
  other_done (spent i n) k = absurd (k i n refl)

  -- 12 in an answer comes from a spent draw alone
  pub spent_count : (o : Outcome ℕ AtObject (List (List Note))) (i n : ℕ) → (ending columns buffer longest o).answer ≡ refusal spent_number i n → (p : ℕ) × (o ≡ spent p n)
  unfolding ending refusing
  spent_count (ended a m) i n e = let z : ◌≡◌ {A = ℕ} 0 12 = ap number_of e in absurd (omega arith)
  spent_count (refused r m) i n e = absurd (not_spent r.refusal (ap number_of e))
  spent_count (spent p m) i n e = (p, ap (λ (x : ℕ). spent p x) (ap count e))

-- A job that ends other than by 12 gives the same answer and the same bytes under every allowance of as many draws as it made or more, and
-- under every smaller one it ends by 12, with the whole allowance drawn. A job that ends by 12 had drawn its whole allowance.
pub record Allowances (s : Song) (buffer : List ℕ) : Type 0 where
  pub same : (a b : ℕ) → Other (job s buffer a) → draws s buffer a ≤ b → job s buffer b ≡ job s buffer a
  pub fewer : (a b : ℕ) → Other (job s buffer a) → b < draws s buffer a → (i : ℕ) × (job s buffer b ≡ refusing spent_number i b buffer)
  pub whole : (a i n : ℕ) → (job s buffer a).answer ≡ refusal spent_number i n → (n ≡ a) × ((p : ℕ) × (under s buffer a ≡ spent p n))

pub allowances : (s : Song) (buffer : List ℕ) → Allowances s buffer
unfolding under ledger_under job draws ending
allowances s buffer =
    let m = convert s (length buffer) in
    let start = seeded (seed s.settings) in
    let law = lawful m start in
    let t = columns_of s in
    record {
      same = λ a b o h.
          let d = other_done t buffer _ (run m (values a start)) o in
          ap₂ {C = Job} (ending t buffer) (ap (λ (l : Ledger). largest l.searches) (same_searches m start a b d h)) (law.same a b d h);
      fewer = λ a b o h.
          let short = law.fewer a b (other_done t buffer _ (run m (values a start)) o) h in
          (short.0, ap (ending t buffer _) short.1);
      whole = λ a i n e.
          let s = spent_count t buffer _ (run m (values a start)) i n e in
          (law.whole a s.0 n s.1, s);
    }
