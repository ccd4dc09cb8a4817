-- `object::generate_slider` meets its contract. Assumes nothing.
use mathlib.Core.Path.{subst}
use Rattle.model.specs.Limits.{most_notes}
use Rattle.random.specs.Play.{on}
use Rattle.mania.specs.declared.PathObjectPatternGenerator.{PathObjectPatternGenerator}
use Rattle.mania.specs.PathObject as PathObject
use Rattle.pattern.specs.Answers.{Generates}
use Rattle.slider_notes.specs.Words.{note_of_word}
use Rattle.object.proofs.Ready.{ready}
use Rattle.object.proofs.generate_slider.Goals as goal

pub invariant_of-generate_owned : goal.invariant_of-generate_owned
invariant_of-generate_owned c =
    let a = c.args in
    record { ready = rw c.new-g.ensures (ready a.f a.v a.columns a.o a.repeats a.distance a.node c.requires.0 c.requires.1 c.requires.2 c.requires.3) }

pub returns : goal.returns
returns c =
    let a = c.args in
    let k = c.generate_owned in
    subst (λ (g : PathObjectPatternGenerator). Generates note_of_word k.new.words (on (PathObject.generate g) a.d) most_notes k.result) c.new-g.ensures k.ensures
