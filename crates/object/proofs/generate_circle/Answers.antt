-- `object::generate_circle` meets its contract. Assumes nothing.
use mathlib.Core.Path.{subst}
use native.Mathlib.Omega.{arith}
use Rattle.random.specs.Play.{on}
use Rattle.mania.specs.declared.HitObjectPatternGenerator.{HitObjectPatternGenerator}
use Rattle.mania.specs.HitObject as HitObject
use Rattle.pattern.specs.Answers.{Generates}
use Rattle.circle_notes.specs.Answers.{circle_at}
use Rattle.object.proofs.generate_circle.Goals as goal

pub invariant_of-circle : goal.invariant_of-circle
unfolding HitObject.new
invariant_of-circle c =
    record {
      some = rw c.new-g.ensures (omega arith);
      deck = rw c.new-g.ensures (omega arith);
    }

pub invariant_of-ready : goal.invariant_of-ready
unfolding HitObject.new
invariant_of-ready c = record { last = rw c.new-g.ensures (omega arith) }

pub returns : goal.returns
unfolding HitObject.new
returns c =
    let a = c.args in
    subst (λ (g : HitObjectPatternGenerator). Generates (circle_at g.start) c.generate_owned.new.words (on (HitObject.generate g) a.d) 14 c.generate_owned.result) c.new-g.ensures c.generate_owned.ensures
