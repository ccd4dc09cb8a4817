-- `job_text::put_job` meets its contract: the text is what is shown of the chart, or the refusal's line. Assumes nothing.
use mathlib.Core.Path.{◌≡◌, sym}
use native.Mathlib.Omega.{arith}
use lib.ListN.{length}
use lib.Seq.{length-take-le}
use Rattle.std.specs.Prelude.{Ok, Err}
use Rattle.job_text.specs.Limits.{allowance}
use Rattle.job_text.proofs.Ended.{ended_text, chart_fits, chart_long}
use borrow.Author.Rules.{rules}
use Rattle.job_text.proofs.put_job.Goals as goal

pub slice_bounds-put-end : goal.slice_bounds-put-end
slice_bounds-put-end g c =
    chart_fits c.args.bytes.now c.args.chart.now c.convert.new.chart allowance c.in-Ok.made.length c.in-Ok.made.longest c.convert.result c.convert.ensures c.in-Ok.is

pub slice_bounds-put-end-in-Ok : goal.slice_bounds-put-end-in-Ok
slice_bounds-put-end-in-Ok g c =
    sym (length-take-le _ _ (chart_fits c.args.bytes.now c.args.chart.now c.convert.new.chart allowance c.in-Ok.made.length c.in-Ok.made.longest c.convert.result c.convert.ensures c.in-Ok.is))

pub put-requires : goal.put-requires
put-requires g c =
    let made = c.convert.new.chart in
    let v = c.in-Ok in
    let kept : length made ≡ length c.args.chart.now = search rules in
    let fits = chart_fits c.args.bytes.now c.args.chart.now made allowance v.made.length v.made.longest c.convert.result c.convert.ensures v.is in
    let long = chart_long c.args.bytes.now c.args.chart.now made allowance v.made.length v.made.longest c.convert.result c.convert.ensures v.is in
    record { chart_size = (omega (arith, length-take-le v.made.length made fits), omega (arith, length-take-le v.made.length made fits)); s_size = c.requires.1 }

pub returns-in-Ok : goal.returns-in-Ok
returns-in-Ok g c =
    let convert = c.convert in
    let v = c.in-Ok in
    let shown = ended_text c.args.bytes.now c.args.chart.now convert.new.chart allowance convert.result (Ok v.made) convert.ensures
    v.is g.S.Show.shown c.put.result c.args.s.now c.put.new.s (c.put.ensures.value.0, c.put.ensures.s_after) in
    record { value = (shown.0, c.put.ensures.value.1); s_after = shown.1 }

pub returns-in-Err : goal.returns-in-Err
returns-in-Err g c =
    let convert = c.convert in
    let v = c.in-Err in
    let put = c.put_refusal_line in
    let shown = ended_text c.args.bytes.now c.args.chart.now convert.new.chart allowance convert.result (Err v.refused) convert.ensures
    v.is g.S.Show.shown put.result c.args.s.now put.new.s (omega (arith, rw c.from.ensures at put.ensures.value.0), rw c.from.ensures at put.ensures.s_after) in
    record { value = (shown.0, omega (arith, put.ensures.value.1, c.requires.1, g.met.S.Show.line_room)); s_after = shown.1 }

pub put_refusal_line-requires : goal.put_refusal_line-requires
put_refusal_line-requires g c = omega (arith, c.requires.1, g.met.S.Show.line_room)
