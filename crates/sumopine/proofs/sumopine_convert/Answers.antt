-- `sumopine::sumopine_convert` meets its contract: a chart has its job's draws in its header (`draws_told`), and a refusal tells them. Assumes nothing.
use Rattle.std.proofs.Common.{◌≡◌, ℕ, ◌^◌, ◌<◌, ◌≤◌, List, Ok, length, sym, ap, ◌∙◌, subst, arith}
use Rattle.rules.specs.Coded.{code}
use Rattle.chart.specs.Chart.{draws_of}
use Rattle.mania.specs.Job.{Job}
use Rattle.job.specs.Job.{job, draws}
use Rattle.job.proofs.Demand.{demand}
use Rattle.convert.specs.Ends.{job_end}
use Rattle.sumopine.proofs.Headers.{draws_told, header_room}
use Rattle.sumopine.proofs.sumopine_convert.Goals as goal

-- the chart that a job ends with has a header, and the job's draws in it
header_told : (bytes buffer chart : List ℕ) (a n g : ℕ) → a < 2 ^ 32 → job_end chart (Ok (record { length = n; longest = g })) ≡ job bytes buffer a → (8 ≤ length chart) × (draws_of chart ≡ draws bytes buffer a)
header_told bytes buffer chart a n g small e =
    let chart_is = ap (λ (j : Job). j.chart) e in
    let answer_is = ap (λ (j : Job). j.answer) (sym e) in
    (subst (λ (s : List ℕ). 8 ≤ length s) (sym chart_is) (header_room bytes buffer a n g small answer_is), ap draws_of chart_is ∙ draws_told bytes buffer a n g small answer_is)

pub draws_in-requires : goal.draws_in-requires
draws_in-requires c = (header_told _ _ _ c.args.allowance c.in-Ok.made.length c.in-Ok.made.longest (omega arith) c.in-Ok.ensures).0

pub returns-in-Ok-clause-draws_after : goal.returns-in-Ok-clause-draws_after
returns-in-Ok-clause-draws_after c = c.draws_in.ensures ∙ (header_told _ _ _ c.args.allowance c.in-Ok.made.length c.in-Ok.made.longest (omega arith) c.in-Ok.ensures).1

pub returns-in-Err-clause-draws_after : goal.returns-in-Err-clause-draws_after
returns-in-Err-clause-draws_after c =
    (demand c.args.bytes.now c.args.chart.now).told c.args.allowance (code c.in-Err.refused.refusal) c.in-Err.refused.object c.in-Err.refused.draws (ap (λ (j : Job). j.answer) (sym c.in-Err.ensures))
