-- `single::generate` meets its contract. Assumes nothing.
use mathlib.Core.Path.{◌≡◌, sym, ap, ◌∙◌, subst}
use native.Mathlib.Nat.{le_trans}
use native.Mathlib.Omega.{arith}
use Rattle.std.proofs.Common.{rules, tests}
use Rattle.rules.specs.Coded.{code}
use Rattle.mania.proofs.Laws.Singles.{single_refused}
use Rattle.pattern.specs.Answers.{object_end}
use Rattle.pattern.specs.Laws.Mapped.{kept, mapped}
use Rattle.object.specs.Notes.{note_at}
use Rattle.object.specs.Contract.{OnDeck}
use Rattle.single.proofs.Kept.{asks, left_in, ended_single, leaves_with}
use Rattle.single.proofs.generate.Goals as goal

pub generate-requires : goal.generate-requires
generate-requires c =
    asks c.args.f c.args.v c.args.columns c.args.o _ _ c.requires (omega arith) (omega arith)

pub keep-requires : goal.keep-requires
keep-requires c =
    let n = c.generate in
    let v = c.in_ok-made in
    let words = n.new.words in
    let is = kept _ _ _ c.map_err.ensures.cases _ v.was in
    let on_deck = subst (OnDeck c.args.columns) is n.ensures.deck in (
      on_deck.0,
      omega arith,
      left_in c.args.f c.args.v c.args.columns c.args.o c.args.lent c.args.allowance words v.made v.e
          (ap (object_end (note_at c.args.o) words) (sym is) ∙ n.ensures.says),
    )

pub returns : goal.returns
returns c =
    let n = c.generate in
    let v = c.in_ok-made in
    let words = n.new.words in
    let is = kept _ _ _ c.map_err.ensures.cases _ v.was in
    let on_deck = subst (OnDeck c.args.columns) is n.ensures.deck in
    ended_single c.args.f c.args.v c.args.columns c.args.o c.args.lent c.args.allowance c.args.notes.now c.keep.new.notes words
    v.made v.e c.requires (le_trans on_deck.0 (omega arith)) (ap (object_end (note_at c.args.o) words) (sym is) ∙ n.ensures.says)
    c.keep.result c.keep.ensures

pub returns-in_err-made : goal.returns-in_err-made
returns-in_err-made c =
    let a = c.args in
    let n = c.generate in
    let f = c.in_err-made.field-0.0 in
    let t = mapped _ _ _ c.map_err.ensures.cases f c.in_err-made.was in
    let k : (f.refusal ≡ t.0.refusal) × (f.random ≡ a.lent) = search (rules, tests) in
    leaves_with a.notes.now _ a.lent f _ c.from_residual.ensures.1 (ap code k.0, k.1)
    ∙ sym (single_refused a.f a.v a.columns a.o a.lent a.allowance a.notes.now c.requires (code t.0.refusal) t.0.draws
    (sym (ap (object_end (note_at a.o) n.new.words) (sym t.1) ∙ n.ensures.says)))
