-- util/random/osu.rs: Marsaglia's xor128 with the shifts 11, 8 and 19, on words of 32 bits; and what a value is turned into. Assumes nothing.
use Rattle.std.specs.Prelude.{ℕ, zero, suc, ◌+◌, ◌-◌, ◌*◌, ◌/◌, ◌%◌, ◌^◌, false, List, [], ◌∷◌, Float}
use Rattle.std.specs.Int.Bits.{bit_xor}
use Rattle.std.specs.Float.{binary64}
use Rattle.std.specs.Float.Ieee.{round}
use Rattle.random.specs.declared.Random.{Random}

-- the first word, against itself shifted left by 11 within 32 bits
unfoldable pub twisted : ℕ → ℕ
twisted x = bit_xor x (x * 2 ^ 11 % 2 ^ 32)

-- the new last word
unfoldable pub mixed : ℕ → ℕ → ℕ
mixed w t = bit_xor (bit_xor (bit_xor w (w / 2 ^ 19)) t) (t / 2 ^ 8)

-- one step, `gen_unsigned`: the words move up by one, and the last is new
unfoldable pub next : Random → Random
next r = record { x = r.y; y = r.z; z = r.w; w = mixed r.w (twisted r.x) }

-- the value of the step that made a state, `next_int`: the low 31 bits of its last word
unfoldable pub low : Random → ℕ
low r = r.w % 2 ^ 31

-- the values of the first n steps from a state
unfoldable pub values : ℕ → Random → List ℕ
values zero r = []
values (suc n) r = low (next r) ∷ values n (next r)

-- the state after n steps
unfoldable pub steps : ℕ → Random → Random
steps zero r = r
steps (suc n) r = steps n (next r)

-- the state that a seed gives, `Random::new`
abbrev pub seeded : ℕ → Random
seeded s = record { x = s; y = 842502087; z = 3579807591; w = 273326509 }

-- `next_int_range` of a value: min + floor(v · (max − min) / 2 ^ 31)
unfoldable pub between : ℕ → ℕ → ℕ → ℕ
between min max v = min + v * (max - min) / 2 ^ 31

-- `next_double` of a value: the f64 nearest to v / 2 ^ 31, which is v / 2 ^ 31 itself (`Laws.Unit.unit_exact`)
unfoldable pub unit : ℕ → Float
unit v = round binary64 false v (2 ^ 31)
