-- Document 01's limits on a song and its notes, each once. src/limits.rt has those that code names. Assumes nothing.
use Rattle.std.specs.Prelude.{ℕ, ◌+◌, ◌*◌, true, false, Float}
use Rattle.std.specs.Float.{binary32, binary64}
use Rattle.std.specs.Float.Ieee.{round}

-- repeats of a slider: the largest count delivered
abbrev pub most_repeats : ℕ
most_repeats = 299

-- spans of a slider
abbrev pub most_spans : ℕ
most_spans = most_repeats + 1

-- rows of a slider's notes: one where each span begins, and one at the end
abbrev pub most_rows : ℕ
most_rows = most_spans + 1

-- notes of an object: two in each row
abbrev pub most_notes : ℕ
most_notes = 2 * most_rows

-- spans of more than 160 ms in less than 4 s, as those of a hold with circles beside it
abbrev pub most_long_spans : ℕ
most_long_spans = 24

-- breaks: their count has 8 bits
abbrev pub most_breaks : ℕ
most_breaks = 255

-- points of a kind, and objects: each count has 12 bits
abbrev pub most_entries : ℕ
most_entries = 4095

-- the latest start of an object, and the longest duration, in ms
abbrev pub latest_start : ℕ
latest_start = 16777215

-- the latest end of a slider, and of a note in a chart, in ms
abbrev pub latest_end : ℕ
latest_end = 33554431

-- the longest beat, in ms, and the longest distance of a slider
abbrev pub longest_beat : ℕ
longest_beat = 60000

abbrev pub longest_distance : ℕ
longest_distance = 131072

-- ---- the range of each float field

-- from low to high, both included
pub record Range : Type 0 where
  pub low : Float
  pub high : Float

-- hp, cs, od and ar
abbrev pub setting_range : Range
setting_range = record { low = round binary32 false 0 1; high = round binary32 false 10 1 }

-- the slider multiplier
abbrev pub multiplier_range : Range
multiplier_range = record { low = round binary64 false 4 10; high = round binary64 false 36 10 }

-- the time of a break or a point
abbrev pub time_range : Range
time_range = record { low = round binary64 true latest_start 1; high = round binary64 false latest_start 1 }

abbrev pub beat_range : Range
beat_range = record { low = round binary64 false 6 1; high = round binary64 false longest_beat 1 }

abbrev pub velocity_range : Range
velocity_range = record { low = round binary64 false 1 10; high = round binary64 false 10 1 }

-- an object's start, and a duration
abbrev pub span_range : Range
span_range = record { low = round binary64 false 0 1; high = round binary64 false latest_start 1 }

-- x and y
abbrev pub coordinate_range : Range
coordinate_range = record { low = round binary32 true 512 1; high = round binary32 false 1024 1 }

abbrev pub distance_range : Range
distance_range = record { low = round binary64 false 0 1; high = round binary64 false longest_distance 1 }

-- the highest difficulty
abbrev pub most_difficulty : Float
most_difficulty = round binary64 false 12 1

-- draws of one column search
abbrev pub search_limit : ℕ
search_limit = 4096
