-- When a job is refused. Assumes nothing.
use mathlib.Core.Path.{◌≡◌, refl, sym, ap, ap₂, ◌∙◌, subst}
use mathlib.Core.Logic.{◌⊎◌, inl, inr}
use Prim.Native.Nat.{ℕ, ◌≤◌, ◌<◌}
use native.Mathlib.Omega.{arith}
use mathlib.Core.List.{List}
use lib.ListN.{length, replicate}
use Rattle.rules.specs.Rule.{Outcome, ended, spent}
use Rattle.rules.specs.Rule as Rule
use Rattle.rules.specs.Refusal.{Refusal, late_end, too_short, long_search}
use Rattle.rules.specs.Refusal as Refusal
use Rattle.rules.specs.Ledger.{Ledger, largest}
use Rattle.rules.specs.Limited.{last_or}
use Rattle.random.specs.Generator.{seeded}
use Rattle.random.specs.Laws.Allowance.{lawful}
use Rattle.model.specs.Song.{Song}
use Rattle.mania.specs.declared.Note.{Note}
use Rattle.mania.specs.Convert.{AtObject, at, seed, columns_of, song_facts, convert}
use Rattle.mania.specs.Refusals.{InWalk, TooLong}
use Rattle.mania.specs.Job.{Answer, refusal, Job, ending, refusing, under, ledger_under}
use Rattle.mania.specs.Job as OfSong
use Rattle.mania.proofs.Eleven.{job_eleven}
use Rattle.mania.proofs.Limits.{job_long}
use Rattle.mania.proofs.Meets.{refused_meets}
use Rattle.mania.proofs.Reach.{convert_ends, reasons}
use Rattle.mania.proofs.Eight.{job_eight}
use Rattle.mania.proofs.Numbers.{numbered, is_late, is_blocked, is_off, is_short, is_long_law, not_12, up_to, Number, unread, late, blocked, below, short, drawn, long, which}
use Rattle.mania.proofs.Refuses.{eight_refuses, eleven_refuses, short_refuses}
use Rattle.mania.proofs.Demand.{few_columns}
use Rattle.record.specs.Record.{Parsed, refused, accepted, parse}
use Rattle.record.specs.Fields.{FirstFailing}
use Rattle.record.specs.Laws.Refusals.{refused_first, first_refused, accepted_pass}
use Rattle.chart.specs.Layout.{header_size}
use Rattle.job.specs.Job.{job_of, job, ledger_of, ledger}
use Rattle.job.specs.Refusals.{Condition, Refusals}
use Rattle.job.specs.NeverBlocked.{NeverBlocked}
use Rattle.job.proofs.Numbers.{refused_number, accepted_keys}
use Rattle.job.proofs.Demand.{refuses, number, index, count}

-- an answer that refuses zeroes the buffer
zeroed_of : (c : ℕ) (buffer : List ℕ) (g : ℕ) (o : Outcome ℕ AtObject (List (List Note))) (r i n : ℕ) → (ending c buffer g o).answer ≡ refusal r i n → (ending c buffer g o).chart ≡ replicate (length buffer) 0
unfolding ending refusing
zeroed_of c buffer g (ended nss m) r i n e = let z : ◌≡◌ {A = ℕ} 0 1 = ap refuses e in absurd (omega arith)
zeroed_of c buffer g (Rule.refused q m) r i n e = refl
zeroed_of c buffer g (spent q m) r i n e = refl

-- a refused outcome, from its answer
outcome : (q : Refusal) (x : AtObject) (m r i n : ℕ) → refusal (Refusal.number x.refusal) x.object m ≡ refusal r i n → x.refusal ≡ q
    → ◌≡◌ {A = Outcome ℕ AtObject (List (List Note))} (Rule.refused x m) (Rule.refused (at i q) n)
outcome q x m r i n e k =
    ap (λ (y : Refusal). Rule.refused (at x.object y) m) k ∙ ap (λ (y : ℕ). Rule.refused (at y q) m) (ap index e) ∙ ap (λ (y : ℕ). Rule.refused (at i q) y) (ap count e)

module _ (bytes buffer : List ℕ) (s : Song) (p : parse bytes ≡ accepted s) (a r i n : ℕ) where
  deck : columns_of s ≤ 9
  deck = few_columns s (accepted_keys bytes s p)

  ledger_is : ledger bytes buffer a ≡ ledger_under s buffer a
  unfolding ledger ledger_of
  ledger_is = ap (λ (q : Parsed). ledger_of q buffer a) p

  by_outcome : (g : ℕ) (o : Outcome ℕ AtObject (List (List Note))) → under s buffer a ≡ o → (ending (columns_of s) buffer g o).answer ≡ refusal r i n → Condition bytes buffer a r i n
  unfolding ending refusing under
  by_outcome g (ended nss m) u e = let z : ◌≡◌ {A = ℕ} 0 1 = ap refuses e in absurd (omega arith)
  by_outcome g (Rule.refused x m) u e =
      let is : Refusal.number x.refusal ≡ r = ap number e in
      let in_table = numbered x.refusal in
      let in_walk : InWalk (song_facts s) 0 s.objects x = refused_meets (convert s (length buffer)) (convert_ends s (length buffer) deck) a (seeded (seed s.settings)) x m u in
      record {
        from = omega (arith, in_table.0);
        to = subst (λ (k : ℕ). (k ≤ 12) ⊎ (k ≡ 16)) is (up_to (Refusal.number x.refusal) in_table.1);
        unread = λ h. absurd (omega (arith, in_table.0));
        whole = λ h. accepted_pass bytes s p;
        late = λ h. (s, p, job_eight s deck buffer a i n (u ∙ outcome late_end x m r i n e (is_late x.refusal (is ∙ h))));
        not_9 = λ h. in_walk.found (is_blocked x.refusal (is ∙ h));
        not_10 = λ h. in_walk.on (is_off x.refusal (is ∙ h));
        short = λ h. (s, p, job_eleven s deck buffer a i n (u ∙ outcome too_short x m r i n e (is_short x.refusal (is ∙ h))));
        drawn = λ h. absurd (not_12 (Refusal.number x.refusal) in_table.1 (is ∙ h));
        long = λ h. let w = u ∙ outcome long_search x m r i n e (is_long_law x.refusal (is ∙ h)) in (s, p, w, ap (λ (l : Ledger). last_or 0 l.searches) ledger_is ∙ job_long s buffer a i n w);
      }
  by_outcome g (spent x m) u e =
      let is : 12 ≡ r = ap number e in
      let w : m ≡ a = (lawful (convert s (length buffer)) (seeded (seed s.settings))).whole a x m u in
      record {
        from = omega arith;
        to = inl (omega arith);
        unread = λ h. absurd (omega arith);
        whole = λ h. accepted_pass bytes s p;
        late = λ h. absurd (omega arith);
        not_9 = λ h. omega arith;
        not_10 = λ h. omega arith;
        short = λ h. absurd (omega arith);
        drawn = λ k. (sym (ap count e) ∙ w, (s, p, u ∙ ap (λ (j : ℕ). spent j m) (ap index e) ∙ ap (λ (j : ℕ). spent i j) w));
        long = λ h. absurd (omega arith);
      }

of_parsed : (bytes buffer : List ℕ) (p : Parsed) → parse bytes ≡ p → (a r i n : ℕ) → (job_of p buffer a).answer ≡ refusal r i n
    → Condition bytes buffer a r i n
unfolding job_of refusing OfSong.job
of_parsed bytes buffer (refused m) p a r i n e =
    let is : m ≡ r = ap number e in
    let small = refused_number bytes m p in
    record {
      from = omega (arith, small.0);
      to = inl (omega (arith, small.1));
      unread = λ k. (subst (FirstFailing bytes) is (refused_first bytes m p), sym (ap index e), sym (ap count e));
      whole = λ k. absurd (omega (arith, small.1));
      late = λ k. absurd (omega (arith, small.1));
      not_9 = λ k. omega (arith, small.1);
      not_10 = λ k. omega (arith, small.1);
      short = λ k. absurd (omega (arith, small.1));
      drawn = λ k. absurd (omega (arith, small.1));
      long = λ k. absurd (omega (arith, small.1));
    }
of_parsed bytes buffer (accepted s) p a r i n e = by_outcome bytes buffer s p a r i n _ (under s buffer a) refl e

zeroed_by : (p : Parsed) (buffer : List ℕ) (a r i n : ℕ) → (job_of p buffer a).answer ≡ refusal r i n → (job_of p buffer a).chart ≡ replicate (length buffer) 0
unfolding job_of refusing OfSong.job
zeroed_by (refused m) buffer a r i n e = refl
zeroed_by (accepted s) buffer a r i n e = zeroed_of (columns_of s) buffer _ (under s buffer a) r i n e

refused_by_law : (bytes buffer : List ℕ) (a r i n : ℕ) → (job bytes buffer a).answer ≡ refusal r i n → Condition bytes buffer a r i n
unfolding job
refused_by_law bytes buffer a r i n e = of_parsed bytes buffer (parse bytes) refl a r i n e

-- ---- where a condition holds, the job is refused so

module _ (bytes buffer : List ℕ) (a : ℕ) where
  of_song : (s : Song) → parse bytes ≡ accepted s → job bytes buffer a ≡ OfSong.job s buffer a
  unfolding job job_of
  of_song s p = ap (λ (q : Parsed). job_of q buffer a) p

  of_refused : (r : ℕ) → parse bytes ≡ refused r → (job bytes buffer a).answer ≡ refusal r 0 0
  unfolding job job_of refusing
  of_refused r p = ap (λ (q : Parsed). (job_of q buffer a).answer) p

  -- a song's job that is refused
  answered : (s : Song) → parse bytes ≡ accepted s → (r i n : ℕ) → OfSong.job s buffer a ≡ refusing r i n buffer → (job bytes buffer a).answer ≡ refusal r i n
  unfolding refusing
  answered s p r i n e = ap (λ (j : Job). j.answer) (of_song s p ∙ e)

  ends_so : (s : Song) (o : Outcome ℕ AtObject (List (List Note))) → under s buffer a ≡ o → OfSong.job s buffer a ≡ ending (columns_of s) buffer (largest (ledger_under s buffer a).searches) o
  unfolding OfSong.job
  ends_so s o u = ap (ending (columns_of s) buffer (largest (ledger_under s buffer a).searches)) u

  answers : (r i n : ℕ) → Condition bytes buffer a r i n → Number r → (job bytes buffer a).answer ≡ refusal r i n
  unfolding ending
  answers r i n c (unread h) =
      let k = c.unread h in
      of_refused r (first_refused bytes r k.0) ∙ ap₂ (refusal r) (sym k.1) (sym k.2)
  answers r i n c (late h) =
      let k = c.late h in
      answered k.0 k.1 r i n (eight_refuses k.0 buffer a i n k.2 ∙ ap (λ (x : ℕ). refusing x i n buffer) (sym h))
  answers r i n c (blocked h) = absurd (c.not_9 h)
  answers r i n c (below h) = absurd (c.not_10 h)
  answers r i n c (short h) =
      let k = c.short h in
      answered k.0 k.1 r i n (by k.0 k.2 ∙ ap (λ (x : ℕ). refusing x i n buffer) (sym h))
    where
      by : (s : Song) → ((length buffer < header_size) × (i ≡ 0) × (n ≡ 0)) ⊎ TooLong s (length buffer) a i n → OfSong.job s buffer a ≡ refusing 11 i n buffer
      by s (inl h) = short_refuses s buffer a h.0 ∙ ap₂ (λ (x y : ℕ). refusing 11 x y buffer) (sym h.1) (sym h.2)
      by s (inr h) = eleven_refuses s buffer a i n h
  answers r i n c (drawn h) =
      let k = c.drawn h in
      answered k.1.0 k.1.1 r i n (ends_so k.1.0 (spent i a) k.1.2 ∙ ap₂ (λ (x y : ℕ). refusing x i y buffer) (sym h) (sym k.0))
  answers r i n c (long h) =
      let k = c.long h in
      answered k.0 k.1 r i n (ends_so k.0 (Rule.refused (at i long_search) n) k.2 ∙ ap (λ (x : ℕ). refusing x i n buffer) (sym h))

  refused_so : (r i n : ℕ) → Condition bytes buffer a r i n → (job bytes buffer a).answer ≡ refusal r i n
  refused_so r i n c = answers r i n c (which r c.to)

accepted_else : (bytes buffer : List ℕ) (a : ℕ) (x : Answer) → (job bytes buffer a).answer ≡ x → ((r i n : ℕ) → Condition bytes buffer a r i n → ⊥) → (n : ℕ) × (g : ℕ) × (x ≡ OfSong.accepted n g)
accepted_else bytes buffer a (OfSong.accepted n g) e h = (n, g, refl)
accepted_else bytes buffer a (refusal r i n) e h = absurd (h r i n (refused_by_law bytes buffer a r i n e))

pub refusals : (bytes buffer : List ℕ) → Refusals bytes buffer
unfolding job
refusals bytes buffer =
    record {
      holds = refused_by_law bytes buffer;
      answers = refused_so bytes buffer;
      one = λ a r i n r' i' n' c c'.
          let e = sym (refused_so bytes buffer a r i n c) ∙ refused_so bytes buffer a r' i' n' c' in
          (ap number e, ap index e, ap count e);
      zeroed = λ a r i n e. zeroed_by (parse bytes) buffer a r i n e;
      else = λ a h. accepted_else bytes buffer a (job bytes buffer a).answer refl h;
    }

-- so 9 and 10 never come
pub never_blocked : (bytes buffer : List ℕ) → NeverBlocked bytes buffer
never_blocked bytes buffer =
    record {
      nine = λ a i n e. (refused_by_law bytes buffer a 9 i n e).not_9 refl;
      ten = λ a i n e. (refused_by_law bytes buffer a 10 i n e).not_10 refl;
      reached = λ s p k a n w e. reasons.reached s (few_columns s (accepted_keys bytes s p)) k a n (seeded (seed s.settings)) w e;
    }
