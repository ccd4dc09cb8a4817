-- `slider_patterns::generate_n_random_notes` meets its contract. Assumes nothing.
use Rattle.std.specs.Prelude.{if◌then◌else◌}
use Rattle.mania.specs.Steps.{double}
use Rattle.std.proofs.Common.{◌≡◌, sym, ap, ◌∙◌, le_refl, arith}
use lib.Ieee.{round, of_bits}
use Rattle.random.specs.Answers.{number}
use Rattle.mania.specs.PatternGenerator.{get_random_note_count}
use Rattle.pattern.specs.Laws.Bounds.{count_le}
use Rattle.slider_times.specs.Chances.{chances}
use Rattle.slider_notes.proofs.Ends.{places, stops}
use Rattle.slider_patterns.proofs.Rules.{n_found, n_stop}
use Rattle.slider_patterns.proofs.generate_n_random_notes.Goals as goal
use Rattle.slider_patterns.proofs.generate_n_random_notes.Goals.{After-get_random_note_count, then-two, else-two}

-- a double sound makes two notes certain
certain : (c : After-get_random_note_count) → c.if-two.p2 ≡ (if c.can_generate_two_notes-two.result then double 1 1 else c.capped-k.result.p2)
unfolding round of_bits
certain c = elim c.if-two.branch [ then-two w ↦ w.p2-is ∙ rw w.if-two.true | else-two w ↦ w.p2-is ∙ rw w.if-two.false ]

pub generate_random_hold_notes-requires : goal.generate_random_hold_notes-requires
generate_random_hold_notes-requires c = (omega arith, count_le _ _ _ _ _ _ _ _ (sym c.get_random_note_count.ensures ∙ ap number c.in_ok-n.was))

pub returns-in_err-n : goal.returns-in_err-n
unfolding get_random_note_count round of_bits
returns-in_err-n c =
    stops _ _ _ c.from_residual.ensures.1 _ _
    (n_stop _ _ (chances c.args.chance) (chances c.capped-k.result) c.capped-k.ensures _ c.can_generate_two_notes-two.ensures _ (certain (goal.at.returns-in_err-n c).After-get_random_note_count) _ _ (sym c.get_random_note_count.ensures ∙ ap number c.in_err-n.was))

pub returns : goal.returns
unfolding get_random_note_count round of_bits
returns c =
    places _ _ _ _ _ _ c.generate_random_hold_notes.ensures
    (sym (n_found _ _ (chances c.args.chance) (chances c.capped-k.result) c.capped-k.ensures _ c.can_generate_two_notes-two.ensures _ (certain (goal.at.returns c).After-get_random_note_count) _ _ (sym c.get_random_note_count.ensures ∙ ap number c.in_ok-n.was)))
    (le_refl _)
