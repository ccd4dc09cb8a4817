-- `walk::convert_object` meets its contract: what `generate` made is kept (`finished`), and a refusal of its rule is one of the walk (`refused_step`).
-- Assumes nothing.
use mathlib.Core.Path.{sym, ap, ◌∙◌, subst}
use Prim.Native.Nat.{◌≤◌}
use native.Mathlib.Omega.{arith}
use lib.ListN.{length}
use Rattle.std.proofs.lemmas.Result.{err_from_is_err_and}
use Rattle.model.specs.Limits.{most_notes}
use Rattle.pattern.specs.Answers.{object_end}
use Rattle.object.specs.Notes.{note_at}
use Rattle.object.specs.Contract.{OnDeck}
use Rattle.walk.proofs.Objects.{finished, refused_step}
use Rattle.walk.proofs.convert_object.Goals as goal
use Rattle.walk.proofs.convert_object.Goals.{In_ok-made}

-- what was made lies on the deck
deck : (c : In_ok-made) → OnDeck c.args.g.columns c.generate.result
deck c = c.generate.ensures.deck

pub keep-requires : goal.keep-requires
keep-requires c =
    let on_deck = subst (OnDeck c.args.g.columns) c.in_ok-made.was (deck (goal.at.keep-requires c).In_ok-made) in
    (c.requires.0, on_deck.0, omega (arith, c.requires.6), c.requires.5)

pub returns : goal.returns
returns c =
    let m = c.meet-m in
    let n = c.generate in
    let v = c.in_ok-made in
    let words = n.new.words in
    let size : most_notes ≤ length words = omega (arith, c.requires.6) in
    finished c.args.chart.now c.keep.new.chart words c.args.index c.args.g c.args.c c.args.w c.args.o c.args.d v.after m.result
    v.made m.ensures size (subst (OnDeck c.args.g.columns) v.was (deck (goal.at.returns c).In_ok-made))
    (ap (object_end (note_at c.args.o) words) (sym v.was) ∙ n.ensures.says) c.keep.result c.keep.ensures

pub returns-in_err-made : goal.returns-in_err-made
returns-in_err-made c =
    let a = c.args in
    let m = c.meet-m in
    let p = err_from_is_err_and c.from_residual.result c.from_residual.ensures.1 in
    rw (p.1, p.2)
    (refused_step a.chart.now a.g a.c a.w a.o a.d _ m.result _ m.ensures
    (ap (object_end (note_at a.o) c.generate.new.words) (sym c.in_err-made.was) ∙ c.generate.ensures.says))
