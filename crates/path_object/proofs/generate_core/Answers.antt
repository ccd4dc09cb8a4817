-- `path_object::generate_core` meets its contract. Assumes nothing.
use mathlib.Core.Path.{sym}
use native.Mathlib.Omega.{arith}
use Rattle.slider_notes.specs.Words.{of_word}
use Rattle.pattern.specs.Laws.Words.{empty_is}
use Rattle.slider_notes.proofs.Ends.{places}
use Rattle.path_object.proofs.Bounds.{fits}
use borrow.Author.Tests.{lt-ltb, le-ltb, eq-eqb, ne_eqb}
use Rattle.mania.specs.PathObject.{generate_core}
use Rattle.slider_notes.proofs.Words.{add_on}
use Rattle.path_object.proofs.generate_core.Goals as goal

pub returns-then-columns-eq1 : goal.returns-then-columns-eq1
unfolding generate_core
returns-then-columns-eq1 c =
    let w = c.put_slider_note-p.ensures in
    record {
      says =
          rw (w.is, empty_is of_word c.args.words.now)
          (sym (rw (eq-eqb _ _ c.if-columns-eq1.true) (add_on c.args.ready.g 0 c.args.ready.g.start c.args.ready.g.end _ c.args.d (omega (arith, c.args.ready.ready.low)))));
      few = omega (arith, w.more);
    }

pub invariant_of-slider : goal.invariant_of-slider
invariant_of-slider c = record { fits = fits _ c.args.ready.ready c.requires.1 c.if-columns-eq1.false }

pub generate_spans-requires : goal.generate_spans-requires
generate_spans-requires c = (c.requires.0, c.args.ready.ready.share)

pub returns-then-spans-gt1 : goal.returns-then-spans-gt1
unfolding generate_core
returns-then-spans-gt1 c =
    places _ _ _ _ _ _ c.generate_spans.ensures
    (rw (ne_eqb _ _ c.if-columns-eq1.false, lt-ltb _ _ c.if-spans-gt1.true)) (omega arith)

pub returns : goal.returns
unfolding generate_core
returns c =
    places _ _ _ _ _ _ c.generate_span.ensures
    (rw (ne_eqb _ _ c.if-columns-eq1.false, le-ltb _ _ c.if-spans-gt1.false)) (omega arith)
