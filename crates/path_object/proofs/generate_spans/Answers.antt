-- `path_object::generate_spans` meets its contract: at each return, the tests that led there say which branch it is. Assumes nothing.
use native.Mathlib.Omega.{arith}
use Rattle.slider_notes.proofs.Ends.{places}
use Rattle.path_object.proofs.Bounds.{few_spans}
use borrow.Author.Tests.{lt-leb, le-leb}
use lib.Ieee.{round, of_bits}
use Rattle.mania.specs.PatternType.{◌⊔ₜ◌}
use Rattle.mania.specs.PathObject.{percent, generate_spans}
use Rattle.path_object.proofs.generate_spans.Goals as goal

pub returns-then-span-le90 : goal.returns-then-span-le90
unfolding generate_spans
returns-then-span-le90 c =
    places _ _ _ _ _ _ c.generate_random_hold_notes.ensures
    (rw (le-leb _ _ c.if-span-le90.true)) (omega arith)

pub returns-then-span-le120 : goal.returns-then-span-le120
unfolding generate_spans ◌⊔ₜ◌
returns-then-span-le120 c =
    places _ _ _ _ _ _ c.generate_random_notes.ensures
    (rw (lt-leb _ _ c.if-span-le90.false, le-leb _ _ c.if-span-le120.true)) (omega arith)

pub returns-then-span-le160 : goal.returns-then-span-le160
unfolding generate_spans
returns-then-span-le160 c =
    places _ _ _ _ _ _ c.generate_stair.ensures
    (rw (lt-leb _ _ c.if-span-le90.false, lt-leb _ _ c.if-span-le120.false, le-leb _ _ c.if-span-le160.true)) (omega arith)

pub returns-then-fast : goal.returns-then-fast
unfolding generate_spans round of_bits
returns-then-fast c =
    places _ _ _ _ _ _ c.generate_random_multiple_notes.ensures
    (rw (lt-leb _ _ c.if-span-le90.false, lt-leb _ _ c.if-span-le120.false, lt-leb _ _ c.if-span-le160.false, c.if-fast.true)) (omega arith)

pub returns-then-lasts-ge4000 : goal.returns-then-lasts-ge4000
unfolding generate_spans percent round of_bits
returns-then-lasts-ge4000 c =
    places _ _ _ _ _ _ c.generate_n_random_notes.ensures
    (rw (lt-leb _ _ c.if-span-le90.false, lt-leb _ _ c.if-span-le120.false, lt-leb _ _ c.if-span-le160.false, c.if-fast.false, ← c.saturating_sub-lasts.ensures, le-leb _ _ c.if-lasts-ge4000.true)) (omega arith)

pub returns-then-tiled : goal.returns-then-tiled
unfolding generate_spans round of_bits
returns-then-tiled c =
    places _ _ _ _ _ _ c.generate_tiled_hold_notes.ensures
    (rw (lt-leb _ _ c.if-span-le90.false, lt-leb _ _ c.if-span-le120.false, lt-leb _ _ c.if-span-le160.false, c.if-fast.false, ← c.saturating_sub-lasts.ensures, lt-leb _ _ c.if-lasts-ge4000.false, ← c.tile_limit-limit.ensures, c.if-tiled.true)) (omega arith)

pub generate_hold_and_normal_notes-requires : goal.generate_hold_and_normal_notes-requires
generate_hold_and_normal_notes-requires c =
    let g = c.args.slider.g in
    (c.requires.0, few_spans g.length g.spans c.if-span-le160.false (omega (arith, c.saturating_sub-lasts.ensures, c.if-lasts-ge4000.false, c.requires.1)))

pub returns : goal.returns
unfolding generate_spans round of_bits
returns c =
    places _ _ _ _ _ _ c.generate_hold_and_normal_notes.ensures
    (rw (lt-leb _ _ c.if-span-le90.false, lt-leb _ _ c.if-span-le120.false, lt-leb _ _ c.if-span-le160.false, c.if-fast.false, ← c.saturating_sub-lasts.ensures, lt-leb _ _ c.if-lasts-ge4000.false, ← c.tile_limit-limit.ensures, c.if-tiled.false)) (omega arith)
