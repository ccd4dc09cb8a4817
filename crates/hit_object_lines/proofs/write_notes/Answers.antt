-- `hit_object_lines::write_notes` meets its contract. Assumes nothing.
use mathlib.Core.Path.{◌≡◌, refl, sym, ap, ◌∙◌}
use native.Mathlib.Omega.{arith}
use Rattle.std.proofs.lemmas.Result.{err_from_is_err_and}
use Rattle.rules.specs.declared.Refusal.TheVariants.{NotWhole}
use Rattle.chart.specs.Chart.{notes_in}
use Rattle.hit_object_lines.specs.Told.{size_told}
use Rattle.hit_object_lines.specs.Laws.Chart.{not_whole_law, no_room, room, size_some, size_none}
use Rattle.hit_object_lines.proofs.write_notes.Goals as goal

pub returns-in_err-size : goal.returns-in_err-size
returns-in_err-size c =
    let known = size_none _ (notes_in c.args.score.notes.chart.now) c.args.text.now (sym (ap size_told c.in_err-size.ensures.ok_part) ∙ c.text_size.ensures) in
    let p = err_from_is_err_and c.from_residual.result c.from_residual.ensures.1 in
    let value = rw c.in_err-size.ensures.ok_part at c.in_err-size.ensures.value in
    let number : c.in_err-size.field-0.0 ≡ NotWhole = cc in
    rw (not_whole_law c.args.score.columns (notes_in c.args.score.notes.chart.now) c.args.text.now known, p.1, p.2, number) (record { result_value = refl; text_after = refl })

pub returns-then-size-text : goal.returns-then-size-text
returns-then-size-text c =
    let known = size_some _ (notes_in c.args.score.notes.chart.now) c.args.text.now c.in_ok-size.size (sym (ap size_told c.in_ok-size.ensures.ok_part) ∙ c.text_size.ensures) in
    rw (no_room c.args.score.columns (notes_in c.args.score.notes.chart.now) c.args.text.now known.0 (omega (arith, known.1))) (record { result_value = refl; text_after = refl })

pub put_lines-requires : goal.put_lines-requires
put_lines-requires c =
    let known = size_some _ (notes_in c.args.score.notes.chart.now) c.args.text.now c.in_ok-size.size (sym (ap size_told c.in_ok-size.ensures.ok_part) ∙ c.text_size.ensures) in
    record { whole = known.0; room = omega (arith, known.1) }

pub returns : goal.returns
returns c =
    let known = size_some _ (notes_in c.args.score.notes.chart.now) c.args.text.now c.in_ok-size.size (sym (ap size_told c.in_ok-size.ensures.ok_part) ∙ c.text_size.ensures) in
    rw (room c.args.score.columns (notes_in c.args.score.notes.chart.now) c.args.text.now known.0 (omega (arith, known.1)), known.1) (record { result_value = refl; text_after = c.put_lines.ensures })
