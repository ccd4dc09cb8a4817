-- `hit_object::stair_after` meets its contract: so far, the stair after the notes so far. Assumes nothing.
use Rattle.std.proofs.Common.{◌≡◌, map, subst, refl, rules}
use Rattle.std.proofs.lemmas.Fn.{fold_over, slice_gives, fronts}
use Rattle.mania.specs.HitObject.{stair_after}
use Rattle.circle_notes.specs.Answers.{circle_at}
use Rattle.hit_object.proofs.Stairs.{after_more}
use Rattle.hit_object.proofs.stair_after.Goals as goal

pub returns : goal.returns
unfolding stair_after
returns c =
    let g = c.args.circle.g in
    subst (λ l. c.fold.result ≡ stair_after g g.stair (map (circle_at g.start) l)) c.iter.ensures.rest
    (fold_over fronts (λ y. y.now) _ (λ ys s. s ≡ stair_after g g.stair (map (circle_at g.start) ys)) _
    (λ ys s x t f' j k. let more = after_more g ys x.now g.stair in search rules)
    _ _ _ _ (slice_gives c.iter.result) refl c.fold.ensures.ran)
