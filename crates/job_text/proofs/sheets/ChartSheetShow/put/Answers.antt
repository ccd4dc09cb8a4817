-- `job_text::sheets::ChartSheetShow::put` meets its contract: the sheet fits, so a refusal says that there is no chart (`Room`). Assumes nothing.
use Rattle.chart.specs.Bytes.{Bytes}
use Rattle.job_text.proofs.Room.{put_answer}
use Rattle.job_text.proofs.sheets.ChartSheetShow.put.Goals as goal

pub returns : goal.returns
unfolding Bytes
returns c =
    let is = put_answer c.args.chart.now c.args.s.now c.put_sheet.new.s (λ k. (c.type_inv.chart k).fits) c.requires.chart_size.1 c.requires.s_size
    c.put_sheet.result c.put_sheet.ensures in
    record { value = rw c.unwrap_or.ensures (is.0, is.1.0); s_after = is.1.1 }
