-- `text::put_right` meets its contract: the spaces and the digits stand side by side (`wrote_next`). Assumes nothing.
use mathlib.Core.Path.{◌≡◌, ◌∙◌}
use Prim.Native.Nat.{ℕ, ◌+◌, ◌-◌}
use native.Mathlib.Omega.{arith}
use lib.Dec.{ltb}
use lib.ListN.{length, replicate, length-replicate}
use Rattle.text.specs.Text.{places, decimal, right, space}
use Rattle.text.specs.Laws.{length_digits, wrote_first, wrote_next}
use borrow.Author.Rules.{rules}
use Rattle.text.proofs.put_right.Goals as goal

pub returns : goal.returns
unfolding right decimal
returns c =
    let a = c.args in
    let size : c.places-k.result ≡ places a.n (ltb a.n 10) a.n = c.places-k.ensures.0 ∙ length_digits 10 (places a.n (ltb a.n 10) a.n) a.n in
    let gap : ℕ = a.width - length (decimal a.n) in
    let same : a.width - c.places-k.result ≡ gap = rw c.places-k.ensures.0 in
    let spaces = wrote_first {at = c.put_run-first.result} (replicate gap space) (rw same at c.put_run-first.ensures.s_after) (omega (arith, c.put_run-first.ensures.value, length-replicate gap space)) in
    let line = wrote_next {next = c.put_run-first.result + c.places-k.result} (decimal a.n) spaces (rw size at c.put_digits.ensures) (omega (arith, c.places-k.ensures.0)) (search rules) in
    record { value = omega (arith, c.put_run-first.ensures.value, c.places-k.ensures.0); s_after = line.bytes }
