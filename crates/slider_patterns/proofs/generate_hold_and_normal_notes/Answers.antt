-- `slider_patterns::generate_hold_and_normal_notes` meets its contract: the hold, a column, a count, and the circles. Assumes nothing.
use Rattle.std.proofs.Common.{◌≡◌, ◌-◌, ◌<◌, not, sym, ap, ◌∙◌, arith}
use Rattle.std.proofs.Math.Nat.{min-le_left}
use Rattle.random.specs.Play.{found, on}
use Rattle.random.specs.Answers.{number}
use Rattle.mania.specs.PathObject.{head_column, generate_hold_and_normal_notes}
use Rattle.pattern.specs.Laws.Searches.{any_on_deck}
use Rattle.pattern.specs.Laws.Words.{empty_is}
use Rattle.slider_notes.specs.Words.{of_word}
use Rattle.slider_notes.proofs.Ends.{places, stops, leaves}
use Rattle.slider_patterns.proofs.Bounds.{head_lt, beside_small}
use Rattle.slider_patterns.proofs.Rules.{column_stop, count_stop, normal_found}
use Rattle.slider_patterns.proofs.generate_hold_and_normal_notes.Goals as goal
use Rattle.slider_patterns.proofs.generate_hold_and_normal_notes.Goals.{In_ok-hold}

-- the hold's column, which is on the deck
head : (c : In_ok-hold) → let a = c.args in on (head_column a.slider.g a.slider.g.flags) a.d ≡ found c.in_ok-hold.hold c.in_ok-hold.next
head c = sym c.head_column.ensures ∙ ap number c.in_ok-hold.was

deck : (c : In_ok-hold) → c.in_ok-hold.hold < c.args.slider.g.columns
deck c = head_lt c.args.slider.g c.args.slider.g.flags (omega (arith, c.args.slider.fits.low)) _ _ _ (head c)

pub returns-in_err-hold : goal.returns-in_err-hold
unfolding generate_hold_and_normal_notes
returns-in_err-hold c = leaves _ (head_column c.args.slider.g c.args.slider.g.flags) _ _ _ _ _ _ _ c.head_column.ensures c.in_err-hold.was c.from_residual.ensures.1

pub put_slider_note-p-requires : goal.put_slider_note-p-requires
put_slider_note-p-requires c =
    let fit = c.args.slider.fits in
    (omega (arith, deck (goal.at.put_slider_note-p-requires c).In_ok-hold, fit.high), omega (arith, fit.times), fit.ends, omega (arith, c.requires.0))

pub returns-in_err-c : goal.returns-in_err-c
returns-in_err-c c =
    let at = (goal.at.returns-in_err-c c).In_ok-hold in
    stops _ _ _ c.from_residual-in_err-c.ensures.1 _ _
    (column_stop _ _ _ _ (head at) (deck at) _ _ (empty_is of_word _) c.put_slider_note-p.ensures.is _ _ (sym c.any_column.ensures ∙ ap number c.in_err-c.was))

pub returns-in_err-n : goal.returns-in_err-n
returns-in_err-n c =
    let at = (goal.at.returns-in_err-n c).In_ok-hold in
    stops _ _ _ c.from_residual-in_err-n.ensures.1 _ _
    (count_stop _ _ _ _ (head at) (deck at) _ _ (empty_is of_word _) c.put_slider_note-p.ensures.is _ _ (sym c.any_column.ensures ∙ ap number c.in_ok-c.was) _ _
    (sym c.beside_count.ensures ∙ ap number c.in_err-n.was))

pub overflow_sub-g : goal.overflow_sub-g
overflow_sub-g c = omega (arith, c.args.slider.fits.low)

pub turns-turns-requires : goal.turns-turns-requires
turns-turns-requires c =
    (omega arith, any_on_deck _ (omega (arith, c.args.slider.fits.low)) _ _ _ (sym c.any_column.ensures ∙ ap number c.in_ok-c.was))

pub add_besides-requires : goal.add_besides-requires
add_besides-requires c =
    let fit = c.args.slider.fits in
    let six = beside_small _ _ _ _ (sym c.beside_count.ensures ∙ ap number c.in_ok-n.was) in (
      omega (arith, c.turns-turns.ensures.1, c.put_slider_note-p.ensures.more, c.put_slider_note-p.auto.words, c.requires.1, c.requires.0),
      omega (arith, deck (goal.at.add_besides-requires c).In_ok-hold, fit.high),
      omega (arith, min-le_left c.in_ok-n.n (c.args.slider.g.columns - 1), six),
    )

pub returns : goal.returns
returns c =
    let at = (goal.at.returns c).In_ok-hold in
    let t = c.turns-turns.ensures in
    places _ _ _ _ _ _ c.add_besides.ensures
    (rw (t.0, t.1, t.2, t.3) (sym
    (normal_found _ _ _ _ (head at) (deck at) _ _ (empty_is of_word _) c.put_slider_note-p.ensures.is _ _ (sym c.any_column.ensures ∙ ap number c.in_ok-c.was) _ _ _ _
    (ap not c.has_flag-bare.ensures) c.min-k.ensures (sym c.beside_count.ensures ∙ ap number c.in_ok-n.was))))
    (omega (arith, t.1, c.put_slider_note-p.ensures.more, c.requires.1))
