-- `convert::refused` meets its contract. Assumes nothing.
use mathlib.Core.Path.{ap}
use Prim.Native.Nat.{ℕ}
use mathlib.Core.List.{List}
use Rattle.rules.specs.Coded.{code}
use Rattle.mania.specs.Job.{refusal, refusing}
use Rattle.convert.proofs.refused.Goals as goal

pub returns : goal.returns
unfolding refusing
returns c =
    let a = c.args in
    ap (λ (v : List ℕ). record { answer = refusal (code a.refusal) a.object a.draws; chart = v }) c.zero.ensures
