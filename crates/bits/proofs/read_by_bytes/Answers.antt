-- `bits::read_by_bytes` meets its contract. The loop's invariant: v is what the field has of the bytes before byte i. Assumes nothing.
use Rattle.std.proofs.Common.{◌≡◌, ℕ, ◌+◌, ◌-◌, ◌*◌, ◌/◌, ◌≤◌, ap, sym, ◌∙◌, arith}
use Rattle.std.specs.Prelude.{min}
use native.Mathlib.Nat.{lt_of_lt_of_le}
use lib.Pow.{pow_mono}
use Rattle.bits.specs.Field.{bits}
use Rattle.bits.specs.Laws.Fields.{bits_lt, bits_more}
use Rattle.bits.proofs.read_by_bytes.Goals as goal

pub loop-i-init : goal.loop-i-init
unfolding bits
loop-i-init c =
    let e : min (8 * (c.args.at / 8) - c.args.at) c.args.width ≡ 0 = omega arith in
    sym (ap (bits c.args.s.now c.args.at) e)

pub joined-v-requires : goal.joined-v-requires
joined-v-requires c =
    let so : ℕ = min (8 * c.loop-i.i - c.args.at) c.args.width in (
      omega (arith, c.max-from.ensures, c.min.ensures),
      omega (arith, c.max-from.ensures, c.min.ensures),
      rw c.loop-i.invariant (lt_of_lt_of_le (bits_lt c.args.s.now c.args.at so) (pow_mono (omega (arith, c.max-from.ensures, c.min.ensures, c.requires.0, c.loop-i-test.true)))),
    )

pub loop-i-preserved : goal.loop-i-preserved
loop-i-preserved c =
    let bytes = c.args.s.now in
    let at = c.args.at in
    let i = c.loop-i.i in
    let off : ℕ = c.max-from.result - 8 * i in
    let k : ℕ = c.min.result - c.max-from.result in
    let so : ℕ = min (8 * i - at) c.args.width in
    let shift : 8 * i + 8 - c.max-from.result - k ≡ 8 - off - k = omega (arith, c.max-from.ensures) in
    let next : min (8 * (i + 1) - at) c.args.width ≡ so + k = omega (arith, c.max-from.ensures, c.min.ensures, c.loop-i-test.true) in
    let here : at + so ≡ 8 * i + off = omega (arith, c.max-from.ensures, c.loop-i-test.true) in
    let room : off + k ≤ 8 = omega (arith, c.max-from.ensures, c.min.ensures) in
    c.joined-v.ensures
    ∙ rw (c.loop-i.invariant, c.byte_at.ensures, shift) (sym (bits_more bytes at so i off k here room))
    ∙ sym (ap (bits bytes at) next)
