-- `single::convert_object` meets its contract. Assumes nothing.
use mathlib.Core.Path.{◌≡◌, sym, ap, ◌∙◌}
use Rattle.std.proofs.Common.{rules, tests}
use Rattle.rules.specs.Coded.{code, refusal_code}
use Rattle.mania.specs.Single.{entry_refusal}
use Rattle.mania.proofs.Laws.Singles.{single_checked}
use Rattle.rules.specs.Laws.Coded.{code_some}
use Rattle.pattern.specs.Laws.Mapped.{mapped}
use Rattle.single.proofs.Kept.{leaves_with}
use Rattle.single.proofs.convert_object.Goals as goal

pub returns-in_err-map_err : goal.returns-in_err-map_err
returns-in_err-map_err c =
    let a = c.args in
    let f = c.in_err-map_err.field-0.0 in
    let t = mapped _ _ _ c.map_err.ensures.cases f c.in_err-map_err.was in
    let e : code t.0 ≡ entry_refusal a.f a.v a.columns a.o = sym (ap refusal_code t.1) ∙ c.entry_refusal.ensures in
    let k : (f.refusal ≡ t.0) × (f.random ≡ a.lent) = search (rules, tests) in
    leaves_with a.notes.now _ a.lent f _ c.from_residual.ensures.1 (ap code k.0 ∙ e, k.1)
    ∙ sym (single_checked a.f a.v a.columns a.o a.lent a.allowance a.notes.now (λ z. code_some t.0 (e ∙ z)))
