-- Where the parts of a record stand, in bits; src/layout.rt has the same numbers. Assumes nothing.
use Rattle.std.specs.Prelude.{ℕ, ◌+◌, ◌*◌}

-- ---- the header's fields, from the record's first bit on; the lists follow it, the breaks first

abbrev pub version : ℕ
version = 0

abbrev pub keys : ℕ
keys = 4

abbrev pub hp : ℕ
hp = 8

abbrev pub cs : ℕ
cs = 40

abbrev pub od : ℕ
od = 72

abbrev pub ar : ℕ
ar = 104

abbrev pub multiplier : ℕ
multiplier = 136

abbrev pub break_count : ℕ
break_count = 200

abbrev pub timing_count : ℕ
timing_count = 208

abbrev pub difficulty_count : ℕ
difficulty_count = 220

abbrev pub effect_count : ℕ
effect_count = 232

abbrev pub object_count : ℕ
object_count = 244

abbrev pub breaks : ℕ
breaks = 256

-- ---- an entry of a list: its second field (a break's end, what a point says) from its first bit on, and its width

abbrev pub second : ℕ
second = 64

abbrev pub entry : ℕ
entry = 128

abbrev pub effect_entry : ℕ
effect_entry = 65

-- ---- the lists of points, from the first bit of the timing points on, by how many timing and difficulty points there are

abbrev pub difficulty_points : ℕ → ℕ
difficulty_points timing = entry * timing

abbrev pub effect_points : ℕ → ℕ → ℕ
effect_points timing difficulty = entry * timing + entry * difficulty

-- ---- an object's fields, from its first bit on, which is that of its kind; then what the kind adds

abbrev pub sound : ℕ
sound = 2

abbrev pub x : ℕ
x = 6

abbrev pub y : ℕ
y = 38

abbrev pub start : ℕ
start = 70

abbrev pub added : ℕ
added = 134

-- an object's most bits: a slider with a distance and a node sound
abbrev pub longest : ℕ
longest = 214

-- ---- what a slider adds, from its first bit on, which is that of the repeats: whether a distance is given, and the distance

abbrev pub repeats_width : ℕ
repeats_width = 10

abbrev pub is_given : ℕ
is_given = repeats_width

abbrev pub distance : ℕ
distance = 11
