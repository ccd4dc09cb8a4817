-- `chart_reader::counted::Notes::new` meets its contract: the header states how many notes there are (`accepted_score`).
-- Assumes nothing.
use mathlib.Core.Path.{sym}
use Rattle.chart.specs.Chart.{reading, decode, notes_read}
use Rattle.chart.specs.Laws.Reader.{accepted_score}
use Rattle.chart_reader.proofs.counted.Notes.new.Goals as goal

pub invariant_of-result : goal.invariant_of-result
unfolding reading notes_read
invariant_of-result c =
    let h = c.args.header in
    let k = accepted_score (decode c.args.chart.now) h.version h.columns h.notes h.draws c.requires in
    record { counted = rw k.1.0 (sym k.1.1.1) }
