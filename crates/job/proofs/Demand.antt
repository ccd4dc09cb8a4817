-- Demand 3 of records, from what holds of songs. Assumes nothing.
use mathlib.Core.Path.{◌≡◌, refl, sym, ap, ◌∙◌, subst}
use Prim.Native.Nat.{ℕ, ◌+◌, ◌-◌, ◌≤◌, ◌<◌}
use native.Mathlib.Nat.{lt_of_not-le, zero-max}
use native.Mathlib.Omega.{arith}
use mathlib.Core.List.{List}
use lib.ListN.{length}
use Rattle.rules.specs.Refusal.{spent_number}
use Rattle.rules.specs.Rule.{Outcome, ended, spent, run, taken}
use Rattle.rules.specs.Rule as Rule
use Rattle.rules.specs.Ledger.{sum, largest, longest}
use Rattle.rules.proofs.Laws.Ledger.{all_counted}
use Rattle.random.specs.Generator.{values, seeded, steps}
use Rattle.random.specs.declared.Random.{Random}
use Rattle.random.specs.Play.{tallied}
use Rattle.random.specs.Laws.Play.{placed, play_run}
use Rattle.model.specs.Song.{Song}
use Rattle.mania.specs.declared.Note.{Note}
use Rattle.mania.specs.Convert.{AtObject, seed, columns_of, convert}
use Rattle.mania.specs.Walked.{spent_at, refused_at, on_walk}
use Rattle.mania.specs.Job.{Answer, refusal, Job, ending, refusing, under, ledger_under}
use Rattle.mania.specs.Job as OfSong
use Rattle.mania.specs.Demand.{Spent, Other, Each, Lanes, OnDeck}
use Rattle.mania.specs.Demand as Draws
use Rattle.model.specs.Limits.{search_limit}
use Rattle.mania.proofs.Allowances.{allowances}
use Rattle.mania.proofs.Limits.{job_few}
use Rattle.mania.proofs.Demand.{deck_and_lanes, some_columns, few_columns}
use Rattle.record.specs.Record.{Parsed, refused, accepted, parse}
use Rattle.job.specs.Job.{job_of, job, columns_in, columns, draws_of, draws, ledger_of, ledger, notes_in, notes_of, notes}
use Rattle.job.specs.Demand.{after, Demand}
use Rattle.job.proofs.Numbers.{refused_number}
use Rattle.job.proofs.Numbers.{accepted_keys}

abbrev pub number : Answer → ℕ
number (OfSong.accepted n g) = 0
number (refusal r i n) = r

abbrev pub index : Answer → ℕ
index (OfSong.accepted n g) = 0
index (refusal r i n) = i

abbrev pub count : Answer → ℕ
count (OfSong.accepted n g) = 0
count (refusal r i n) = n

abbrev pub refuses : Answer → ℕ
refuses (OfSong.accepted n g) = 0
refuses (refusal r i n) = 1

abbrev reports : Answer → ℕ
reports (OfSong.accepted n g) = g
reports (refusal r i n) = 0

not_12 : (n : ℕ) → n ≤ 7 → n ≡ 12 → ⊥
not_12 n h e = omega arith

-- an answer tells the draws
told_of : (c : ℕ) (buffer : List ℕ) (g : ℕ) (o : Outcome ℕ AtObject (List (List Note))) (r i n : ℕ) → (ending c buffer g o).answer ≡ refusal r i n → n ≡ taken o
unfolding ending refusing taken
told_of c buffer g (ended nss m) r i n e = let z : ◌≡◌ {A = ℕ} 0 1 = ap refuses e in absurd (omega arith)
told_of c buffer g (Rule.refused q m) r i n e = sym (ap count e)
told_of c buffer g (spent q m) r i n e = sym (ap count e)

-- an accepted job's rules ended with its notes
pub accepted_ended : (c : ℕ) (buffer : List ℕ) (g : ℕ) (o : Outcome ℕ AtObject (List (List Note))) (n k : ℕ) → (ending c buffer g o).answer ≡ OfSong.accepted n k → o ≡ ended (notes_in o) (taken o)
unfolding ending refusing taken notes_in
accepted_ended c buffer g (ended nss m) n k e = refl
accepted_ended c buffer g (Rule.refused q m) n k e = let z : ◌≡◌ {A = ℕ} 1 0 = ap refuses e in absurd (omega arith)
accepted_ended c buffer g (spent q m) n k e = let z : ◌≡◌ {A = ℕ} 1 0 = ap refuses e in absurd (omega arith)

-- a spent job's index is that of the spent draw
spent_index : (c : ℕ) (buffer : List ℕ) (g : ℕ) (o : Outcome ℕ AtObject (List (List Note))) (p i n : ℕ) → o ≡ spent p n → (ending c buffer g o).answer ≡ refusal spent_number i n → o ≡ spent i n
unfolding ending refusing
spent_index c buffer g o p i n u e =
    let k : ◌≡◌ {A = Answer} (refusal spent_number p n) (refusal spent_number i n) = sym (ap (λ (o : Outcome ℕ AtObject (List (List Note))). (ending c buffer g o).answer) u) ∙ e in
    u ∙ ap (λ (j : ℕ). spent j n) (ap index k)

-- where a played rule ends, as many steps are made as values were taken
placed_after : (l g : ℕ) (s : Random) (o : Outcome ℕ AtObject (List (List Note))) → after (placed spent_at refused_at l g s o) ≡ tallied (l - taken o) g (steps (taken o) s)
unfolding placed taken
placed_after l g s (ended a n) = refl
placed_after l g s (Rule.refused r n) = refl
placed_after l g s (spent p n) = refl

-- an accepted job reports the longest search
longest_of_law : (c : ℕ) (buffer : List ℕ) (g : ℕ) (o : Outcome ℕ AtObject (List (List Note))) (n k : ℕ) → (ending c buffer g o).answer ≡ OfSong.accepted n k → k ≡ g
unfolding ending refusing
longest_of_law c buffer g (ended nss m) n k e = sym (ap reports e)
longest_of_law c buffer g (Rule.refused q m) n k e = let z : ◌≡◌ {A = ℕ} 1 0 = ap refuses e in absurd (omega arith)
longest_of_law c buffer g (spent q m) n k e = let z : ◌≡◌ {A = ℕ} 1 0 = ap refuses e in absurd (omega arith)

module _ (buffer : List ℕ) where
  same_of : (p : Parsed) (a b : ℕ) → Other (job_of p buffer a) → draws_of p buffer a ≤ b → job_of p buffer b ≡ job_of p buffer a
  unfolding job_of draws_of
  same_of (refused n) a b o h = refl
  same_of (accepted s) a b o h = (allowances s buffer).same a b o h

  below_of : (p : Parsed) (a b : ℕ) → Other (job_of p buffer a) → b < draws_of p buffer a → Spent (job_of p buffer b)
  unfolding job_of draws_of Spent refusing
  below_of (refused n) a b o h = absurd (none b h)
    where
      none : (b : ℕ) → b < 0 → ⊥
      none b h = omega arith
  below_of (accepted s) a b o h =
      let k = (allowances s buffer).fewer a b o h in
      (k.0, b, ap (λ (j : Job). j.answer) k.1)

  whole_of : (p : Parsed) → ((n : ℕ) → p ≡ refused n → n ≤ 7) → (a : ℕ) → Spent (job_of p buffer a) → draws_of p buffer a ≡ a
  unfolding job_of draws_of Spent refusing OfSong.job Draws.draws
  whole_of (refused n) small a h = absurd (not_12 n (small n refl) (ap number h.2))
  whole_of (accepted s) small a h =
      let d = ((allowances s buffer).whole a h.0 h.1 h.2).0 in
      sym (told_of (columns_of s) buffer _ (under s buffer a) 12 h.0 h.1 h.2) ∙ d

  needed_of : (p : Parsed) → ((n : ℕ) → p ≡ refused n → n ≤ 7) → (a i n : ℕ) → (job_of p buffer a).answer ≡ refusal spent_number i n
      → (s : Song) × (p ≡ accepted s) × (under s buffer a ≡ spent i n)
  unfolding job_of refusing OfSong.job
  needed_of (refused m) small a i n e = absurd (not_12 m (small m refl) (ap number e))
  needed_of (accepted s) small a i n e =
      let d = ((allowances s buffer).whole a i n e).1 in
      (s, refl, spent_index (columns_of s) buffer _ (under s buffer a) d.0 i n d.1 e)

  counted_of : (p : Parsed) (a : ℕ) (s : Song) → p ≡ accepted s
      → after (on_walk (convert s (length buffer)) (tallied a 0 (seeded (seed s.settings))))
      ≡ tallied (a - draws_of p buffer a) (largest (ledger_of p buffer a).searches) (steps (draws_of p buffer a) (seeded (seed s.settings)))
  unfolding draws_of ledger_of Draws.draws under ledger_under
  counted_of p a s e =
      let start = seeded (seed s.settings) in
      let m = convert s (length buffer) in
      subst (λ (q : Parsed). after (on_walk m (tallied a 0 start)) ≡ tallied (a - draws_of q buffer a) (largest (ledger_of q buffer a).searches) (steps (draws_of q buffer a) start)) (sym e)
      (ap after (play_run spent_at refused_at m a 0 start) ∙ placed_after a _ start (run m (values a start))
      ∙ ap (λ (g : ℕ). tallied (a - taken (run m (values a start))) g (steps (taken (run m (values a start))) start)) (zero-max (longest m (values a start))))

  divided_of : (p : Parsed) (a : ℕ) → sum (ledger_of p buffer a).searches + (ledger_of p buffer a).outside ≡ draws_of p buffer a
  unfolding draws_of ledger_of Draws.draws under ledger_under sum
  divided_of (refused n) a = refl
  divided_of (accepted s) a = all_counted (convert s (length buffer)) (values a (seeded (seed s.settings)))

  few_of : (p : Parsed) (a : ℕ) → largest (ledger_of p buffer a).searches ≤ search_limit
  unfolding ledger_of largest
  few_of (refused n) a = omega arith
  few_of (accepted s) a = job_few s buffer a

  longest_all : (p : Parsed) (a n g : ℕ) → (job_of p buffer a).answer ≡ OfSong.accepted n g → g ≡ largest (ledger_of p buffer a).searches
  unfolding job_of ledger_of refusing OfSong.job
  longest_all (refused m) a n g e = let z : ◌≡◌ {A = ℕ} 1 0 = ap refuses e in absurd (omega arith)
  longest_all (accepted s) a n g e = longest_of_law (columns_of s) buffer _ (under s buffer a) n g e

  spent_not_other : (j : Job) → Spent j → Other j → ⊥
  unfolding Spent Other
  spent_not_other j h o = o h.0 h.1 h.2

  told_all : (p : Parsed) (a r i n : ℕ) → (job_of p buffer a).answer ≡ refusal r i n → n ≡ draws_of p buffer a
  unfolding job_of draws_of refusing OfSong.job Draws.draws
  told_all (refused m) a r i n e = sym (ap count e)
  told_all (accepted s) a r i n e = told_of (columns_of s) buffer _ (under s buffer a) r i n e

  deck_of : (p : Parsed) → ((s : Song) → p ≡ accepted s → s.keys ≤ 9) → (a n g : ℕ) → (job_of p buffer a).answer ≡ OfSong.accepted n g
      → (1 ≤ columns_in p) × (columns_in p ≤ 9) × Each (Each (OnDeck (columns_in p))) (notes_of p buffer a)
  unfolding job_of columns_in notes_of refusing OfSong.job
  deck_of (refused m) keys a n g e = let z : ◌≡◌ {A = ℕ} 1 0 = ap refuses e in absurd (omega arith)
  deck_of (accepted s) keys a n g e =
      let u = accepted_ended (columns_of s) buffer _ (under s buffer a) n g e in
      (some_columns s, few_columns s (keys s refl), (deck_and_lanes s buffer a _ (notes_in (under s buffer a)) u).1)

  lanes_of : (p : Parsed) (a n g : ℕ) → (job_of p buffer a).answer ≡ OfSong.accepted n g → Each Lanes (notes_of p buffer a)
  unfolding job_of notes_of refusing OfSong.job
  lanes_of (refused m) a n g e = let z : ◌≡◌ {A = ℕ} 1 0 = ap refuses e in absurd (omega arith)
  lanes_of (accepted s) a n g e =
      let u = accepted_ended (columns_of s) buffer _ (under s buffer a) n g e in
      (deck_and_lanes s buffer a _ (notes_in (under s buffer a)) u).0

-- the demand, of every record and buffer
pub demand : (bytes buffer : List ℕ) → Demand bytes buffer
unfolding job draws ledger notes columns
demand bytes buffer =
    record {
      whole = λ a h. whole_of buffer (parse bytes) (λ n e. (refused_number bytes n e).1) a h;
      below = λ a b o h. below_of buffer (parse bytes) a b o h;
      only = λ a b o h. lt_of_not-le (λ k. spent_not_other buffer (job bytes buffer a) (subst Spent (same_of buffer (parse bytes) a b o k) h) o);
      same = λ a b o h. same_of buffer (parse bytes) a b o h;
      needed = λ a i n e. needed_of buffer (parse bytes) (λ n e. (refused_number bytes n e).1) a i n e;
      counted = λ a s e. counted_of buffer (parse bytes) a s e;
      told = λ a r i n e. told_all buffer (parse bytes) a r i n e;
      divided = λ a. divided_of buffer (parse bytes) a;
      few = λ a. few_of buffer (parse bytes) a;
      longest = λ a n g e. longest_all buffer (parse bytes) a n g e;
      deck = λ a n g e. deck_of buffer (parse bytes) (accepted_keys bytes) a n g e;
      lanes = λ a n g e. lanes_of buffer (parse bytes) a n g e;
    }
