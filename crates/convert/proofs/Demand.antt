-- Demands 1, 2 and 3 of what `convert` answers: what holds of the job holds of an answer that is the job's. Assumes nothing.
use mathlib.Core.Path.{◌≡◌, refl, sym, ap, ◌∙◌, subst}
use Prim.Native.Nat.{ℕ, ◌≤◌}
use mathlib.Core.List.{List}
use lib.ListN.{length, take}
use Rattle.chart.specs.Chart.{decode}
use Rattle.chart.specs.Lanes.{LaneRule}
use Rattle.model.specs.Limits.{search_limit}
use Rattle.mania.specs.Job.{Answer, Job, accepted, refusal}
use Rattle.mania.specs.Demand as OfJob
use Rattle.job.specs.Job.{job}
use Rattle.job.proofs.Demand as Jobs
use Rattle.job.proofs.Read.{reads}
use Rattle.job.proofs.Refusals.{refusals}
use Rattle.job.proofs.Largest.{largest}
use Rattle.std.specs.Prelude.{Ok, Err}
use Rattle.rules.specs.Coded.{code}
use Rattle.rules.specs.Laws.Coded.{refusal_of, refusal_of_code}
use Rattle.convert.specs.Ends.{JobEnd, says, job_end}
use Rattle.convert.specs.Demand.{Demand, Answers, Says, Spent, Other}

-- the end that says an answer
abbrev end_of : Answer → JobEnd
end_of (accepted n g) = Ok (record { length = n; longest = g })
end_of (refusal r i n) = Err (record { refusal = refusal_of r; object = i; draws = n })

end_of_law : (r : JobEnd) → end_of (says r) ≡ r
end_of_law (Ok r) = refl
end_of_law (Err r) = rw (refusal_of_code r.refusal)

module _ (bytes buffer : List ℕ) where
  -- the job's answer, where the code's is known
  answer : (a : ℕ) (r : JobEnd) (x : List ℕ) → Answers bytes buffer a r x → (job bytes buffer a).answer ≡ says r
  answer a r x e = ap (λ (j : Job). j.answer) (sym e)

  -- and where it is known what the code's says
  said : (a : ℕ) (k : Answer) (x : List ℕ) → Says bytes buffer a k x → (job bytes buffer a).answer ≡ k
  said a k x h = ap (λ (j : Job). j.answer) (sym h)

  -- and what the code's says, where the job's is
  found : (a : ℕ) (r : JobEnd) (x : List ℕ) (k : Answer) → Answers bytes buffer a r x → (job bytes buffer a).answer ≡ k → says r ≡ k
  found a r x k e h = sym (answer a r x e) ∙ h

  -- the bytes that it leaves are the job's
  left : (a : ℕ) (k : Answer) (x : List ℕ) → Says bytes buffer a k x → x ≡ (job bytes buffer a).chart
  left a k x h = ap (λ (j : Job). j.chart) h

  other : (a : ℕ) (r : JobEnd) (x : List ℕ) → Answers bytes buffer a r x → Other r → OfJob.Other (job bytes buffer a)
  unfolding OfJob.Other
  other a r x e o i n h = o (i, n, found a r x (refusal 12 i n) e h)

  spent_as : (b : ℕ) (s : JobEnd) (y : List ℕ) → Answers bytes buffer b s y → Spent s → OfJob.Spent (job bytes buffer b)
  unfolding OfJob.Spent
  spent_as b s y f h = (h.0, h.1, answer b s y f ∙ h.2)

  alike : (r s : JobEnd) (x y : List ℕ) → job_end x r ≡ job_end y s → (r ≡ s) × (x ≡ y)
  alike r s x y e =
      (sym (end_of_law r) ∙ ap (λ (j : Job). end_of j.answer) e ∙ end_of_law s, ap (λ (j : Job). j.chart) e)

  pub demand : Demand bytes buffer
  unfolding OfJob.Spent
  demand =
      let d = Jobs.demand bytes buffer in
      let refused = refusals bytes buffer in
      let charts = reads bytes buffer in
      record {
        condition = λ a r i n x e.
            let h = said a (refusal r i n) x e in
            (refused.holds a r i n h, left a _ x e ∙ refused.zeroed a r i n h);
        refuses = λ a r i n e x h c. found a e x (refusal r i n) h (refused.answers a r i n c);
        else = λ a e x h none. let c = refused.else a none in (c.0, c.1, found a e x (accepted c.0 c.1) h c.2);
        never = λ a r i n x e. let c = refused.holds a r i n (said a (refusal r i n) x e) in (c.not_9, c.not_10);
        chart = λ a n g x e. left a _ x e ∙ charts.chart a n g (said a (accepted n g) x e);
        long = λ a n g x e. charts.long a n g (said a (accepted n g) x e);
        room = λ a n g x e.
            let r = charts.room a n g (said a (accepted n g) x e) in
            (r.0, ap length (left a _ x e) ∙ r.1);
        read = λ a n g x small e. ap (λ (s : List ℕ). decode (take n s)) (left a _ x e) ∙ charts.read a n g small (said a (accepted n g) x e);
        lane_rule = λ a n g x small e.
            subst (λ (s : List ℕ). LaneRule (take n s)) (sym (left a _ x e)) (charts.lanes a n g small (said a (accepted n g) x e));
        needed = λ a i n x e. d.needed a i n (said a (refusal 12 i n) x e);
        whole = λ a i n x e.
            let h = said a (refusal 12 i n) x e in
            d.told a 12 i n h ∙ d.whole a (i, n, h);
        below = λ a b r s x y e f o l.
            let h = d.below a b (other a r x e o) l in
            (h.0, h.1, found b s y (refusal 12 h.0 h.1) f h.2);
        only = λ a b r s x y e f o h. d.only a b (other a r x e o) (spent_as b s y f h);
        same = λ a b r s x y e f o l. alike r s x y (e ∙ sym (d.same a b (other a r x e o) l) ∙ sym f);
        counted = d.counted;
        told = λ a r i n x e. d.told a r i n (said a (refusal r i n) x e);
        longest = λ a n g x e.
            let is = d.longest a n g (said a (accepted n g) x e) in
            (is, subst (λ (k : ℕ). k ≤ search_limit) (sym is) (d.few a));
        divided = d.divided;
        deck = λ a n g x e. d.deck a n g (said a (accepted n g) x e);
        lanes = λ a n g x e. d.lanes a n g (said a (accepted n g) x e);
        largest_chart_law = λ a n g x e. (largest bytes buffer).chart a n g (said a (accepted n g) x e);
        enough = λ room a i n x e. (largest bytes buffer).enough room a i n (said a (refusal 11 i n) x e);
      }
