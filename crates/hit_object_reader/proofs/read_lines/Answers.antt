-- `hit_object_reader::read_lines` meets its contract. Assumes nothing.
use Rattle.std.proofs.Common.{◌≡◌, ◌≤◌, ◌<◌, refl, sym, ap, ◌∙◌, ⊎_elim, length, arith}
use Rattle.std.proofs.lemmas.Result.{err_from_is_err_and}
use Rattle.rules.specs.declared.Refusal.TheVariants.{HitObjects}
use Rattle.chart.specs.Layout.{chart_size_in}
use Rattle.chart.specs.declared.Version.TheVariants.{One}
use Rattle.chart.specs.Laws.Notes.{encode_put}
use Rattle.hit_object_reader.specs.Told.{checked_told, lines_notes}
use Rattle.hit_object_reader.specs.Laws.Texts.{counted, refused_lines, too_short, made, few_columns, many_columns}
use Rattle.hit_object_reader.proofs.read_lines.Goals as goal

pub returns-in_err-deck : goal.returns-in_err-deck
returns-in_err-deck c =
    let a = c.args in
    let p = err_from_is_err_and c.from_residual.result c.from_residual.ensures.1 in
    let g = c.in_err-deck.ensures in
    let value = rw g.ok_part at g.value in
    let number : c.in_err-deck.field-0.0 ≡ HitObjects = cc in
    let off = ⊎_elim (few_columns a.columns a.s.now a.chart.now) (λ (l : 9 < a.columns). many_columns a.columns a.s.now a.chart.now (omega arith) l) (rw g.ok_part at c.new.ensures.none) in
    rw (off, p.1, p.2, number) (record { result_value = refl; chart_after = refl })

pub returns-in_err-count : goal.returns-in_err-count
returns-in_err-count c =
    let d = c.in_ok-deck in
    let same : d.deck.columns ≡ c.args.columns = rw d.ensures.ok_part at c.new.ensures.some in
    let p = err_from_is_err_and c.from_residual-in_err-count.result c.from_residual-in_err-count.ensures.1 in
    let g = c.in_err-count.ensures in
    let value = rw g.ok_part at g.value in
    let number : c.in_err-count.field-0.0 ≡ HitObjects = cc in
    rw (← same, refused_lines d.deck.columns c.args.s.now c.args.chart.now (sym (ap checked_told g.ok_part) ∙ c.check_lines.ensures), p.1, p.2, number) (record { result_value = refl; chart_after = refl })

pub returns-then-size-chart : goal.returns-then-size-chart
returns-then-size-chart c =
    let s = c.args.s.now in
    let d = c.in_ok-deck in
    let same : d.deck.columns ≡ c.args.columns = rw d.ensures.ok_part at c.new.ensures.some in
    let ns = lines_notes d.deck.columns s in
    let g = c.in_ok-count in
    let w = counted d.deck.columns d.deck.fits s g.count (sym (ap checked_told g.ensures.ok_part) ∙ c.check_lines.ensures) in
    rw (← same, too_short d.deck.columns s c.args.chart.now ns w.1.0 (omega (arith, w.1.1))) (record { result_value = refl; chart_after = refl })

pub put_notes-requires : goal.put_notes-requires
put_notes-requires c =
    let d = c.in_ok-deck in
    let g = c.in_ok-count in
    let w = counted d.deck.columns d.deck.fits c.args.s.now g.count (sym (ap checked_told g.ensures.ok_part) ∙ c.check_lines.ensures) in
    record { lines = w.0; room = omega (arith, w.1.1) }

pub returns : goal.returns
returns c =
    let s = c.args.s.now in
    let d = c.in_ok-deck in
    let same : d.deck.columns ≡ c.args.columns = rw d.ensures.ok_part at c.new.ensures.some in
    let ns = lines_notes d.deck.columns s in
    let g = c.in_ok-count in
    let w = counted d.deck.columns d.deck.fits s g.count (sym (ap checked_told g.ensures.ok_part) ∙ c.check_lines.ensures) in
    let fits : chart_size_in One (length ns) ≤ length c.args.chart.now = omega (arith, w.1.1) in
    let head = c.put_header.ensures in
    let whole = rw w.1.1 at (encode_put One c.args.chart.now d.deck.columns 0 ns fits) in
    rw (← same, made d.deck.columns s c.args.chart.now ns w.1.0 fits) (record { result_value = rw w.1.1; chart_after = c.put_notes.ensures ∙ rw head whole })
