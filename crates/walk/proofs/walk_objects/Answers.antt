-- `walk::walk_objects` meets its contract. The loop's invariant is `At`, and that the points kept are in force between their times. Assumes nothing.
use mathlib.Core.Path.{◌≡◌, refl, sym, ap, ◌∙◌, subst}
use Prim.Native.Nat.{ℕ}
use native.Mathlib.Omega.{arith}
use mathlib.Core.Bool.{Bool}
use mathlib.Core.List.{List}
use Rattle.rules.specs.Coded.{code}
use Rattle.model.specs.declared.Object.{Object}
use Rattle.record.specs.declared.objects.ReadObject.{ReadObject}
use Rattle.record.specs.Object.{read_object, object_end, read_at}
use Rattle.mania.specs.Convert.{facts_at}
use Rattle.mania.specs.Range.{InRange}
use Rattle.walk.specs.Steps.{given_facts, InForceAt, density_at, facts_in, Steps}
use Rattle.walk.proofs.Loop.{at_start, in_range_law, at_refused, at_next, at_end, facts_of_law, begun}
use Rattle.walk.proofs.walk_objects.Goals as goal
use Rattle.walk.proofs.walk_objects.Goals.{After-convert_object}

pub loop-i-init : goal.loop-i-init
loop-i-init c =
    let a = c.args in
    let b = c.beginning-w in (
      at_start a.points.now a.list.s.now a.chart.now a.g a.list.at a.list.count a.d b.result b.ensures
          (begun a.g.columns b.result b.ensures c.requires.0.low) c.requires.2 c.requires.3 c.requires.1,
      c.none_in_force-c.ensures _ _,
      refl,
      refl,
      refl,
    )

pub read_object-read-requires : goal.read_object-read-requires
read_object-read-requires c = omega (arith, c.loop-i.invariant.0.near, c.args.list.few)

pub in_force_at-c-requires : goal.in_force_at-c-requires
in_force_at-c-requires c = (c.requires.0, c.loop-i.invariant.1)

-- what was read is the object at the place, and where the next one is
object_is : (s : List ℕ) (at : ℕ) (r : ReadObject) → r ≡ read_at s at → r.object ≡ read_object s at
unfolding read_at
object_is s at r e = ap (λ (x : ReadObject). x.object) e

next_is : (s : List ℕ) (at : ℕ) (r : ReadObject) → r ≡ read_at s at → r.next ≡ object_end s at
unfolding read_at
next_is s at r e = ap (λ (x : ReadObject). x.next) e

pub convert_object-requires : goal.convert_object-requires
convert_object-requires c =
    let l = c.loop-i in
    let a = c.args in (
      omega (arith, c.args.list.few),
      c.requires.0.low,
      c.requires.0.high,
      l.invariant.0.sound,
      subst InRange (sym (object_is _ _ _ c.read_object-read.ensures.0)) (in_range_law a.points.now a.list.s.now a.chart.now a.g a.list.at a.list.count a.d l.chart l.w l.here l.rest l.i (omega arith) l.invariant.0),
      omega (arith, l.invariant.0.few, c.args.list.few),
      omega (arith, c.requires.4),
      omega (arith, c.requires.5),
    )

-- what the object's step says
stepped : (k : After-convert_object)
    → Steps k.loop-i.chart k.convert_object.new.chart k.loop-i.i k.args.g k.in_force_at-c.result k.loop-i.w (read_object k.args.list.s.now k.loop-i.here) k.loop-i.rest k.convert_object.result
stepped k =
    let l = k.loop-i in
    subst (λ (o : Object). Steps l.chart k.convert_object.new.chart l.i k.args.g k.in_force_at-c.result l.w o l.rest k.convert_object.result) (object_is _ _ _ k.read_object-read.ensures.0) k.convert_object.ensures

-- the facts that the object met are the song's
facts_are : (k : After-convert_object)
    → facts_in k.args.g k.in_force_at-c.result k.loop-i.w (read_object k.args.list.s.now k.loop-i.here)
    ≡ facts_at (given_facts k.args.points.now k.args.g) (density_at k.loop-i.w (read_object k.args.list.s.now k.loop-i.here)) (read_object k.args.list.s.now k.loop-i.here)
facts_are k =
    let f = k.in_force_at-c in
    facts_of_law k.args.points.now k.args.g f.result _ _ (subst (λ (o : Object). InForceAt k.args.points.now k.args.g o.start f.result) (object_is _ _ _ k.read_object-read.ensures.0) f.ensures.1)

-- the walk stops at the object, or goes on from it
pub returns-in-Err : goal.returns-in-Err
returns-in-Err c =
    let l = c.loop-i in
    let a = c.args in
    let k = (goal.at.returns-in-Err c).After-convert_object in
    at_refused a.points.now a.list.s.now a.chart.now a.g a.list.at a.list.count a.d l.chart l.w l.here l.rest l.i (omega arith) l.invariant.0
    c.in_force_at-c.result (facts_are k) (code c.in-Err.refused.refusal) c.in-Err.refused.draws l.invariant.2
    (subst (Steps l.chart c.convert_object.new.chart l.i a.g c.in_force_at-c.result l.w (read_object a.list.s.now l.here) l.rest) c.in-Err.is (stepped k))

pub loop-i-preserved : goal.loop-i-preserved
loop-i-preserved c =
    let l = c.loop-i in
    let a = c.args in
    let f = c.in_force_at-c in
    let k = (goal.at.loop-i-preserved c).After-convert_object in (
      at_next a.points.now a.list.s.now a.chart.now a.g a.list.at a.list.count a.d l.chart l.w l.here l.rest l.i (omega arith) l.invariant.0
          f.result (facts_are k) c.convert_object.new.chart c.in-Ok.after c.read_object-read.result.next c.in-Ok.left l.invariant.2
          (subst (Steps l.chart c.convert_object.new.chart l.i a.g f.result l.w (read_object a.list.s.now l.here) l.rest) c.in-Ok.is (stepped k))
          (next_is _ _ _ c.read_object-read.ensures.0) c.read_object-read.ensures.1,
      f.ensures.0,
      c.convert_object.auto.chart ∙ l.invariant.2,
      c.convert_object.auto.words ∙ l.invariant.3,
      c.convert_object.auto.spare ∙ l.invariant.4,
    )

pub returns : goal.returns
returns c =
    let l = c.loop-i in
    let a = c.args in
    at_end a.points.now a.list.s.now a.chart.now a.g a.list.at a.list.count a.d l.chart l.w l.here l.rest l.i (omega arith) c.args.list.few l.invariant.0
