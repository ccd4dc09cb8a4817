-- `path_object::generate_span` meets its contract. Assumes nothing.
use Rattle.std.specs.Prelude.{if◌then◌else◌}
use Prim.Native.Nat.{◌≤◌}
use native.Mathlib.Omega.{arith}
use Rattle.slider_notes.proofs.Ends.{places}
use borrow.Author.Tests.{lt-leb, le-leb}
use mathlib.Core.Bool.{Bool, true, false}
use lib.Dec.{leb}
use Rattle.mania.specs.PathObject.{generate_span}
use Rattle.path_object.proofs.generate_span.Goals as goal

pub generate_random_notes-requires : goal.generate_random_notes-requires
generate_random_notes-requires c =
    let n = c.span_notes-n.ensures in
    (c.requires, omega (arith, n, most (leb 80 c.args.slider.g.length), c.args.slider.fits.one))
  where
    most : (b : Bool) → (if b then 2 else 1) ≤ 2
    most true = omega arith
    most false = omega arith

pub returns-then-span-le110 : goal.returns-then-span-le110
unfolding generate_span
returns-then-span-le110 c =
    places _ _ _ _ _ _ c.generate_random_notes.ensures
    (rw (le-leb _ _ c.if-span-le110.true, ← c.span_flags-flags.ensures, ← c.span_notes-n.ensures)) (omega arith)

pub returns : goal.returns
unfolding generate_span
returns c =
    places _ _ _ _ _ _ c.generate_n_random_notes.ensures
    (rw (lt-leb _ _ c.if-span-le110.false, ← c.has_type-rare.ensures, ← c.chances_by-chance.ensures)) (omega arith)
