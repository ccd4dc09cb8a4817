-- pattern_generator/path_object.rs: a slider, in whole milliseconds. Assumes nothing.
use Rattle.std.specs.Prelude.{ℕ, zero, suc, ◌+◌, ◌-◌, ◌*◌, ◌/◌, ◌^◌, min, Bool, true, not, ◌&&◌, ◌||◌, List, [], ◌∷◌, ◌++◌, map, eqb, leb, ltb, Float, length, get_or, if◌then◌else◌, Option, Some, None}
use Rattle.std.specs.Int.Bits.{bit_or}
use Rattle.std.specs.Int.Count.{ones}
use Rattle.std.specs.Float.{binary64}
use Rattle.std.specs.Float.Ieee.{neg, lt}
use Rattle.std.specs.Float.Ieee as Ieee
use Rattle.model.specs.Limits.{latest_end}
use Rattle.rules.specs.Rule.{give, refuse, ◌>>=◌}
use Rattle.rules.specs.Refusal.{ObjectRule, late_end}
use Rattle.random.specs.Generator.{between, unit}
use Rattle.random.specs.Play.{value}
use Rattle.floats.specs.Whole.{count}
use Rattle.floats.specs.Narrow.{narrowed}
use Rattle.floats.specs.declared.Way.TheVariants.{Floor, Even}
use Rattle.mania.specs.declared.Facts.{Facts}
use Rattle.mania.specs.declared.PrevValues.{PrevValues}
use Rattle.model.specs.declared.Object.{Object}
use Rattle.mania.specs.declared.Note.{Note}
use Rattle.mania.specs.declared.SliderNote.{SliderNote}
use Rattle.mania.specs.declared.Next.TheVariants.{Draw}
use Rattle.mania.specs.declared.PathObjectPatternGenerator.{PathObjectPatternGenerator}
use Rattle.floats.specs.Least.{least, clamped}
use Rattle.mania.specs.Steps.{single, double, double#}
use Rattle.model.specs.Sound.{whistle, finish, clap, has_flag}
use Rattle.mania.specs.PatternType.{force_not_stack, low_probability, ◌⊔ₜ◌, contains}
use Rattle.mania.specs.Made.{Made, circle}
use Rattle.mania.specs.Pattern.{Pattern, empty, put, add}
use Rattle.mania.specs.PatternGenerator.{random_start, get_column, get_random_note_count, get_random_column, find_available_column}

-- ---- the times

-- `get_precision_adjusted_beat_len` of util/mod.rs: the velocity as a beat length goes through f32
unfoldable pub adjusted_beat : Float → Float → Float
adjusted_beat velocity beat =
    let as_beat = Ieee.div binary64 (neg (double 100 1)) velocity in
    let multiplier = Ieee.div binary64 (clamped (single 10 1) (single 10000 1) (narrowed (neg as_beat))) (double 100 1) in
    Ieee.mul binary64 beat (if lt as_beat (double 0 1) then multiplier else double 1 1)

-- a missing distance is 0
unfoldable pub distance_of : Option Float → Float
distance_of None = double 0 1
distance_of (Some d) = d

-- a missing first node sound is the object's own: `sample_info_list_at` at the start
unfoldable pub head_sound : Option ℕ → ℕ → ℕ
head_sound None sound = sound
head_sound (Some s) sound = s

-- the start, rounded to the nearest whole number, ties to even
unfoldable pub start_time : Object → ℕ
start_time o = count Even o.start

-- floor of start + distance·beat·spans·0.01 / multiplier
unfoldable pub end_time : Facts → Object → ℕ → Option Float → ℕ
end_time f o spans distance =
    let path = Ieee.mul binary64 (distance_of distance) (adjusted_beat f.velocity f.beat) in
    let whole = Ieee.mul binary64 (Ieee.mul binary64 path (double# spans)) (double 1 100) in
    count Floor (Ieee.add binary64 (double# (start_time o)) (Ieee.div binary64 whole f.multiplier))

-- `segment_duration`: the length of one span, in whole milliseconds; the end is not before the start
unfoldable pub span_length : Facts → Object → ℕ → Option Float → ℕ
span_length f o repeats distance = (end_time f o (repeats + 1) distance - start_time o) / (repeats + 1)

-- `new`
unfoldable pub new : Facts → PrevValues → ℕ → Object → ℕ → Option Float → Option ℕ → PathObjectPatternGenerator
new f v columns o repeats distance sound =
    record {
      columns = columns;
      x = o.position.x;
      sound = o.sound;
      head = head_sound sound o.sound;
      difficulty = f.difficulty;
      mask = v.mask;
      stair = v.stair;
      start = start_time o;
      end = end_time f o (repeats + 1) distance;
      spans = repeats + 1;
      length = span_length f o repeats distance;
      flags = if f.kiai then 0 else low_probability;
    }

-- ---- notes

-- `add_slider_note`
unfoldable pub add_slider_note : PathObjectPatternGenerator → ℕ → ℕ → ℕ → Pattern SliderNote → ObjectRule (Pattern SliderNote)
add_slider_note g c start end p = add g.columns (record { column = c; start = start; end = end }) c p

-- a slider's note as a note of the chart; its column's position is not kept
unfoldable pub note_of : SliderNote → Note
note_of b =
    if eqb b.start b.end then circle b.column (double# b.start)
    else record { column = b.column; hold = true; start = double# b.start; duration = Ieee.sub binary64 (double# b.end) (double# b.start) }

-- a drawn column
unfoldable pub any_column : PathObjectPatternGenerator → ObjectRule ℕ
any_column g = get_random_column (random_start g.columns) g.columns

-- `find_available_column`
unfoldable pub find_column : PathObjectPatternGenerator → ℕ → ℕ → ObjectRule ℕ
find_column g c taken = find_available_column Draw g.columns c (random_start g.columns) g.columns taken

-- the object's own column (`next_column`, `hold_column`), moved off the previous pattern where stacking is forbidden and that pattern does not fill the deck
unfoldable pub head_column : PathObjectPatternGenerator → ℕ → ObjectRule ℕ
head_column g flags =
    if contains flags force_not_stack && ltb (ones g.mask) g.columns then find_column g (get_column g.x g.columns) g.mask
    else give (get_column g.x g.columns)

-- n holds of the whole slider, each searched from the one before, off the pattern so far and off the mask `barred`; it gives the last column too
unfoldable pub add_holds : PathObjectPatternGenerator → ℕ → ℕ → ℕ → Pattern SliderNote → ObjectRule (ℕ × Pattern SliderNote)
add_holds g barred zero c p = give (c, p)
add_holds g barred (suc n) c p = do
  d ← find_column g c (bit_or p.mask barred)
  q ← add_slider_note g d g.start g.end p
  add_holds g barred n d q

-- `generate_random_hold_notes`: off the previous pattern while it leaves room, and then anywhere. The room is T − random_start − its columns,
-- and can be −1, at 8 columns; then one hold more than `n` comes
unfoldable pub generate_random_hold_notes : PathObjectPatternGenerator → ℕ → ObjectRule (Pattern SliderNote)
generate_random_hold_notes g n = do
  let deck = g.columns - random_start g.columns
  let taken = ones g.mask
  c ← any_column g
  some ← add_holds g g.mask (min (deck - taken) n) c empty
  all ← add_holds g 0 (n + taken - deck) some.0 some.1
  give all.1

-- n circles, a span apart, each searched from the one before and never on its column; after the last one too a column is searched
unfoldable pub add_row : PathObjectPatternGenerator → ℕ → ℕ → ℕ → Pattern SliderNote → ObjectRule (Pattern SliderNote)
add_row g zero time c p = give p
add_row g (suc n) time c p = do
  q ← add_slider_note g c time time p
  d ← find_column g c (2 ^ c)
  add_row g n (time + g.length) d q

-- `generate_random_notes`
unfoldable pub generate_random_notes : PathObjectPatternGenerator → ℕ → ℕ → ObjectRule (Pattern SliderNote)
generate_random_notes g flags n = do
  c ← head_column g flags
  add_row g n g.start c empty

-- n circles, a span apart, up or down by one column, turning at the ends of the deck
unfoldable pub add_stair : PathObjectPatternGenerator → ℕ → ℕ → ℕ → Bool → Pattern SliderNote → ObjectRule (Pattern SliderNote)
add_stair g zero time c up p = give p
add_stair g (suc n) time c up p = do
  q ← add_slider_note g c time time p
  let rises = if up then ltb c (g.columns - 1) else leb c (random_start g.columns)
  add_stair g n (time + g.length) (if rises then c + 1 else c - 1) rises q

-- `generate_stair`
unfoldable pub generate_stair : PathObjectPatternGenerator → ObjectRule (Pattern SliderNote)
generate_stair g = do
  v ← value
  add_stair g (g.spans + 1) g.start (get_column g.x g.columns) (lt (double 1 2) (unit v)) empty

-- `legacy`: 1 for 4 to 8 columns
unfoldable pub legacy : ℕ → ℕ
legacy columns = if leb 4 columns && leb columns 8 then 1 else 0

-- the second column of a row: so many columns on, round the deck. The Rust's difference is never negative: 8 columns are legacy
unfoldable pub other_column : ℕ → ℕ → ℕ → ℕ
other_column columns interval c =
    if ltb (c + interval) (columns - random_start columns) then c + interval + random_start columns
    else c + interval + legacy columns - columns

-- n rows, a span apart, of two circles, or of one with 2 columns; then a column is drawn
unfoldable pub add_rows : PathObjectPatternGenerator → ℕ → ℕ → ℕ → ℕ → Pattern SliderNote → ObjectRule (Pattern SliderNote)
add_rows g interval zero time c p = give p
add_rows g interval (suc n) time c p = do
  q ← add_slider_note g c time time p
  r ← (if ltb 2 g.columns then add_slider_note g (other_column g.columns interval c) time time q else give q)
  d ← any_column g
  add_rows g interval n (time + g.length) d r

-- `generate_random_multiple_notes`
unfoldable pub generate_random_multiple_notes : PathObjectPatternGenerator → ObjectRule (Pattern SliderNote)
generate_random_multiple_notes g = do
  v ← value
  add_rows g (between 1 (g.columns - legacy g.columns) v) (g.spans + 1) g.start (get_column g.x g.columns) empty

-- ---- chances

pub record Chances : Type 0 where
  pub p2 : Float
  pub p3 : Float
  pub p4 : Float

-- chances in hundredths
unfoldable pub percent : ℕ → ℕ → ℕ → Chances
percent a b c = record { p2 = double a 100; p3 = double b 100; p4 = double c 100 }

-- the caps by column count, from 0 columns on; a cap of 1 caps nothing. Where the Rust sets a chance to 0 the cap is 0: no chance is negative
unfoldable pub caps : List Chances
caps =
    percent 100 100 100
    ∷ percent 100 100 100
    ∷ percent 0 0 0
    ∷ percent 10 0 0
    ∷ percent 30 4 0
    ∷ percent 34 10 3
    ∷ percent 100 100 100
    ∷ percent 100 100 100
    ∷ percent 100 100 100
    ∷ percent 100 100 100
    ∷ []

-- the chances, each at most its cap
unfoldable pub capped : ℕ → Chances → Chances
capped columns c =
    let k = get_or caps columns (percent 100 100 100) in
    record { p2 = least c.p2 k.p2; p3 = least c.p3 k.p3; p4 = least c.p4 k.p4 }

-- `can_generate_two_notes`: in kiai, the object's or its first node's sound has clap or finish
unfoldable pub two_notes : PathObjectPatternGenerator → Bool
two_notes g = not (contains g.flags low_probability) && (has_flag g.sound (clap + finish) || has_flag g.head (clap + finish))

-- `generate_n_random_notes`: the caps first, and then a double sound makes two notes certain
unfoldable pub generate_n_random_notes : PathObjectPatternGenerator → Chances → ObjectRule (Pattern SliderNote)
generate_n_random_notes g chances = do
  let c = capped g.columns chances
  n ← get_random_note_count (if two_notes g then double 1 1 else c.p2) c.p3 c.p4 (double 0 1) (double 0 1)
  generate_random_hold_notes g n

-- ---- holds one after another, and a hold with circles

-- n holds up to `end`, a span apart, each searched from the one before
unfoldable pub add_tiles : PathObjectPatternGenerator → ℕ → ℕ → ℕ → ℕ → Pattern SliderNote → ObjectRule (Pattern SliderNote)
add_tiles g end zero time c p = give p
add_tiles g end (suc n) time c p = do
  d ← find_column g c p.mask
  q ← add_slider_note g d time end p
  add_tiles g end n (time + g.length) d q

-- `generate_tiled_hold_notes`: they end where the spans do, which can be before the slider's end
unfoldable pub generate_tiled_hold_notes : PathObjectPatternGenerator → ObjectRule (Pattern SliderNote)
generate_tiled_hold_notes g = do
  c ← head_column g g.flags
  add_tiles g (g.start + g.length * g.spans) (min g.spans g.columns) g.start c empty

-- a row of n circles at one time, each searched from the one before, off the row so far (its mask) and off the hold; it gives the last column too
unfoldable pub add_beside : PathObjectPatternGenerator → ℕ → ℕ → ℕ → ℕ → ℕ → Pattern SliderNote → ObjectRule (ℕ × Pattern SliderNote)
add_beside g hold time zero c row p = give (c, p)
add_beside g hold time (suc n) c row p = do
  d ← find_column g c (bit_or row (2 ^ hold))
  q ← add_slider_note g d time time p
  add_beside g hold time n d (bit_or row (2 ^ d)) q

-- n rows of k circles, a span apart; the row at the slider's start is left out where its sound is plain
unfoldable pub add_besides : PathObjectPatternGenerator → ℕ → Bool → ℕ → ℕ → ℕ → ℕ → Pattern SliderNote → ObjectRule (Pattern SliderNote)
add_besides g hold bare k zero time c p = give p
add_besides g hold bare k (suc n) time c p = do
  row ← add_beside g hold time (if bare && eqb time g.start then 0 else k) c 0 p
  add_besides g hold bare k n (time + g.length) row.0 row.1

-- `get_random_note_count` with a chance of two alone
unfoldable pub one_or_two : Float → ObjectRule ℕ
one_or_two p2 = get_random_note_count p2 (double 0 1) (double 0 1) (double 0 1) (double 0 1)

-- how many circles stand beside the hold
unfoldable pub beside_count : PathObjectPatternGenerator → ObjectRule ℕ
beside_count g =
    let few = ltb g.columns 6 in
    if lt (double 65 10) g.difficulty then one_or_two (double 63 100)
    else if lt (double 4 1) g.difficulty then one_or_two (if few then double 12 100 else double 45 100)
    else if lt (double 25 10) g.difficulty then one_or_two (if few then double 0 1 else double 24 100)
    else give 0

-- `generate_hold_and_normal_notes`
unfoldable pub generate_hold_and_normal_notes : PathObjectPatternGenerator → ObjectRule (Pattern SliderNote)
generate_hold_and_normal_notes g = do
  hold ← head_column g g.flags
  p ← add_slider_note g hold g.start g.end empty
  c ← any_column g
  n ← beside_count g
  add_besides g hold (not (has_flag g.head (whistle + finish + clap))) (min n (g.columns - 1)) (g.spans + 1) g.start c p

-- ---- the branches in their order

-- fewer spans than this are tiled: at most five with 8 columns
unfoldable pub tile_limit : ℕ → ℕ
tile_limit columns = columns - 1 - random_start columns

-- `generate_` with more than one span
unfoldable pub generate_spans : PathObjectPatternGenerator → ObjectRule (Pattern SliderNote)
generate_spans g =
    if leb g.length 90 then generate_random_hold_notes g 1
    else if leb g.length 120 then generate_random_notes g (g.flags ⊔ₜ force_not_stack) (g.spans + 1)
    else if leb g.length 160 then generate_stair g
    else if leb g.length 200 && lt (double 3 1) g.difficulty then generate_random_multiple_notes g
    else if leb 4000 (g.end - g.start) then generate_n_random_notes g (percent 23 0 0)
    else if ltb 400 g.length && ltb g.spans (tile_limit g.columns) then generate_tiled_hold_notes g
    else generate_hold_and_normal_notes g

-- the chances of one span by the conversion difficulty, smaller with `LOW_PROBABILITY`
unfoldable pub chances_by : Float → Bool → Chances
chances_by difficulty rare =
    if lt (double 65 10) difficulty then (if rare then percent 78 30 0 else percent 85 36 3)
    else if lt (double 4 1) difficulty then (if rare then percent 43 8 0 else percent 56 18 0)
    else if lt (double 25 10) difficulty then (if rare then percent 30 0 0 else percent 37 8 0)
    else if rare then percent 17 0 0
    else percent 27 0 0

-- `generate_` with one span: `FORCE_NOT_STACK` unless the previous pattern fills the deck; the Rust then clears a bit that the flags never have
unfoldable pub generate_span : PathObjectPatternGenerator → ObjectRule (Pattern SliderNote)
generate_span g =
    if leb g.length 110 then
    generate_random_notes g (if ltb (ones g.mask) g.columns then g.flags ⊔ₜ force_not_stack else g.flags) (if leb 80 g.length then 2 else 1)
    else generate_n_random_notes g (chances_by g.difficulty (contains g.flags low_probability))

-- `generate_`
unfoldable pub generate_core : PathObjectPatternGenerator → ObjectRule (Pattern SliderNote)
generate_core g =
    if eqb g.columns 1 then add_slider_note g 0 g.start g.end empty
    else if ltb 1 g.spans then generate_spans g
    else generate_span g

-- ---- the pattern split in two

-- `intermediate_pattern`: the notes that do not end at a time. Start and duration are whole, so their f64 sum is the end
unfoldable pub others : ℕ → List SliderNote → List SliderNote
others end [] = []
others end (b ∷ bs) = if eqb b.end end then others end bs else b ∷ others end bs

-- `end_time_pattern`: the pattern of those that do, added to p
unfoldable pub ending : ℕ → List SliderNote → Pattern SliderNote → Pattern SliderNote
ending end [] p = p
ending end (b ∷ bs) p = ending end bs (if eqb b.end end then put b b.column p else p)

-- `generate`'s split: a single note is the slider's last pattern. Else that is the notes that end at the slider's end, which come after the others.
unfoldable pub split : PathObjectPatternGenerator → Pattern SliderNote → Made
split g p =
    let q = ending g.end p.notes empty in
    if eqb (length p.notes) 1 then record { notes = map note_of p.notes; mask = p.mask; last = p.last; stair = g.stair }
    else record { notes = map note_of (others g.end p.notes ++ q.notes); mask = q.mask; last = q.last; stair = g.stair }

-- the latest end of a slider
abbrev pub latest : ℕ
latest = latest_end

-- `generate`: an end above the latest is refused by 8, before any draw
unfoldable pub generate : PathObjectPatternGenerator → ObjectRule Made
generate g =
    if ltb latest g.end then refuse late_end
    else generate_core g >>= (λ p. give (split g p))
