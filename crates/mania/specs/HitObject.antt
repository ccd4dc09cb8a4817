-- pattern_generator/hit_object.rs: a circle. Assumes nothing.
use Rattle.std.specs.Prelude.{ℕ, zero, suc, ◌+◌, ◌-◌, ◌/◌, ◌%◌, min, Bool, not, ◌&&◌, ◌||◌, List, [], ◌∷◌, eqb, ltb, Float, get_or, if◌then◌else◌}
use Rattle.std.specs.Int.Bits.{bit_or}
use Rattle.std.specs.Int.Count.{ones}
use Rattle.std.specs.Float.{binary32, binary64}
use Rattle.std.specs.Float.Ieee.{le, lt}
use Rattle.std.specs.Float.Ieee as Ieee
use Rattle.rules.specs.Rule.{give, ◌>>=◌}
use Rattle.rules.specs.Refusal.{ObjectRule}
use Rattle.random.specs.Generator.{unit}
use Rattle.random.specs.Play.{value}
use Rattle.floats.specs.Root.{root}
use Rattle.mania.specs.declared.Facts.{Facts}
use Rattle.mania.specs.declared.PrevValues.{PrevValues}
use Rattle.model.specs.declared.Object.{Object}
use Rattle.mania.specs.declared.Note.{Note}
use Rattle.mania.specs.declared.Stair.{Stair}
use Rattle.mania.specs.declared.Stair.TheVariants.{Up, Reverse}
use Rattle.mania.specs.declared.Next.{Next}
use Rattle.mania.specs.declared.Next.TheVariants.{Draw, Step}
use Rattle.mania.specs.declared.HitObjectPatternGenerator.{HitObjectPatternGenerator}
use Rattle.mania.specs.declared.CircleChances.{CircleChances}
use Rattle.mania.specs.declared.MirrorChances.{MirrorChances}
use Rattle.floats.specs.Least.{least, greatest, clamped}
use Rattle.mania.specs.Steps.{single, double}
use Rattle.model.specs.Sound.{finish, clap, has_flag}
use Rattle.mania.specs.PatternType.{force_stack, force_not_stack, keep_single, low_probability, gathered, mirror, reverse, cycle, stair, reverse_stair, stair_bit, ◌⊔ₜ◌, contains}
use Rattle.mania.specs.Made.{Made, circle}
use Rattle.mania.specs.Pattern.{Pattern, free, empty, add}
use Rattle.mania.specs.PatternGenerator.{random_start, get_column, get_random_note_count, get_random_column, find_available_column}

-- ---- the convert type

-- separation under 20: the nearest root of dx·dx + dy·dy, all in f32
unfoldable pub near : PrevValues → Object → Bool
near v o =
    let dx = Ieee.sub binary32 o.position.x v.position.x in
    let dy = Ieee.sub binary32 o.position.y v.position.y in
    lt (root binary32 (Ieee.add binary32 (Ieee.mul binary32 dx dx) (Ieee.mul binary32 dy dy))) (single 20 1)

-- the bits by the time and the separation since the object before, the density and the kiai
unfoldable pub type_by_time : Facts → PrevValues → Object → ℕ
type_by_time f v o =
    let since = Ieee.sub binary64 o.start v.time in
    let dense = Ieee.div binary64 f.beat (double 5 2) in
    if le since (double 80 1) then force_not_stack ⊔ₜ keep_single
    else if le since (double 95 1) then force_not_stack ⊔ₜ keep_single ⊔ₜ stair_bit v.stair
    else if le since (double 105 1) then force_not_stack ⊔ₜ low_probability
    else if le since (double 125 1) then force_not_stack
    else if le since (double 135 1) && near v o then cycle ⊔ₜ keep_single
    else if le since (double 150 1) && near v o then force_stack ⊔ₜ low_probability
    else if near v o && le dense f.density then reverse ⊔ₜ low_probability
    else if lt f.density dense then 0
    else if f.kiai then 0
    else low_probability

-- the bits by the sound: none for a single note; mirrored, but not at 8 columns, by finish; else gathered by clap
unfoldable pub type_by_sound : ℕ → ℕ → ℕ → ℕ
type_by_sound columns sound flags =
    if contains flags keep_single then flags
    else if has_flag sound finish && not (eqb columns 8) then flags ⊔ₜ mirror
    else if has_flag sound clap then flags ⊔ₜ gathered
    else flags

-- `new`
unfoldable pub new : Facts → PrevValues → ℕ → Object → HitObjectPatternGenerator
new f v columns o =
    record {
      columns = columns;
      x = o.position.x;
      start = o.start;
      sound = o.sound;
      difficulty = f.difficulty;
      mask = v.mask;
      last = v.last;
      stair = v.stair;
      flags = type_by_sound columns o.sound (type_by_time f v o);
    }

-- ---- notes

-- `add_note`
unfoldable pub add_note : HitObjectPatternGenerator → ℕ → Pattern Note → ObjectRule (Pattern Note)
add_note g c p = add g.columns (circle c g.start) c p

-- the mirror image of a column
unfoldable pub image : ℕ → ℕ → ℕ
image columns c = random_start columns + columns - c - 1

-- a note at column c, if the previous pattern has column i
unfoldable pub add_one : HitObjectPatternGenerator → ℕ → ℕ → Pattern Note → ObjectRule (Pattern Note)
add_one g i c p = if free g.mask i then give p else add_note g c p

-- of the n columns from i on, a note for each that the previous pattern has, at the column `to` gives
unfoldable pub add_each : HitObjectPatternGenerator → (ℕ → ℕ) → ℕ → ℕ → Pattern Note → ObjectRule (Pattern Note)
add_each g to zero i p = give p
add_each g to (suc n) i p = do
  q ← add_one g i (to i) p
  add_each g to n (suc i) q

-- the columns of the previous pattern, each turned round: `REVERSE`
unfoldable pub reversed : HitObjectPatternGenerator → ObjectRule (Pattern Note)
reversed g =
    let low = random_start g.columns in
    add_each g (image g.columns) (g.columns - low) low empty

-- the columns of the previous pattern: `FORCE_STACK`
unfoldable pub stacked : HitObjectPatternGenerator → ObjectRule (Pattern Note)
stacked g =
    let low = random_start g.columns in
    add_each g (λ i. i) (g.columns - low) low empty

-- the next column, and after the last one the first: `STAIR`
unfoldable pub stair_column : HitObjectPatternGenerator → ℕ
stair_column g = if eqb (g.last + 1) g.columns then random_start g.columns else g.last + 1

-- the column before, in 8 bits (from 0 it is 255, off every deck), and before the first one the last: `REVERSE_STAIR`
unfoldable pub reverse_stair_column : HitObjectPatternGenerator → ℕ
reverse_stair_column g = if eqb g.last (random_start g.columns) then g.columns - 1 else (g.last + 255) % 256

-- `get_next_column`: gathered circles step
unfoldable pub next_of : HitObjectPatternGenerator → Next
next_of g = if contains g.flags gathered then Step else Draw

-- n notes, each searched from the one before, off the pattern so far and off the mask `barred`
unfoldable pub add_random : HitObjectPatternGenerator → ℕ → ℕ → ℕ → Pattern Note → ObjectRule (Pattern Note)
add_random g barred zero c p = give p
add_random g barred (suc n) c p = do
  d ← find_available_column (next_of g) g.columns c (random_start g.columns) g.columns (bit_or p.mask barred)
  q ← add_note g d p
  add_random g barred n d q

-- `generate_random_notes`: where stacking is forbidden (a negative room is none), off the previous pattern and at most as many as the deck then has room for
unfoldable pub generate_random_notes : HitObjectPatternGenerator → ℕ → ObjectRule (Pattern Note)
generate_random_notes g count =
    let room = g.columns - random_start g.columns - ones g.mask in
    let first = get_column g.x g.columns in
    if contains g.flags force_not_stack then add_random g g.mask (min room count) first empty
    else add_random g 0 count first empty

-- ---- chances

abbrev pub Chances : Type 0
Chances = CircleChances

-- chances in hundredths
unfoldable pub percent : ℕ → ℕ → ℕ → ℕ → Chances
percent a b c d = record { p2 = double a 100; p3 = double b 100; p4 = double c 100; p5 = double d 100 }

-- the caps by column count, from 0 columns on; a cap of 1 caps nothing. Where the Rust sets a chance to 0 the cap is 0: no chance is negative
unfoldable pub caps : List Chances
caps =
    percent 100 100 100 100
    ∷ percent 100 100 100 100
    ∷ percent 0 0 0 0
    ∷ percent 10 0 0 0
    ∷ percent 23 4 0 0
    ∷ percent 100 15 3 0
    ∷ percent 100 100 100 100
    ∷ percent 100 100 100 100
    ∷ percent 100 100 100 100
    ∷ percent 100 100 100 100
    ∷ []

-- the chances, each at most its cap
unfoldable pub capped : ℕ → Chances → Chances
capped columns c =
    let k = get_or caps columns (percent 100 100 100 100) in
    record { p2 = least c.p2 k.p2; p3 = least c.p3 k.p3; p4 = least c.p4 k.p4; p5 = least c.p5 k.p5 }

-- `get_random_note_count`: the caps first, and then a clap makes two notes certain
unfoldable pub count_of : HitObjectPatternGenerator → Chances → ObjectRule ℕ
count_of g chances =
    let c = capped g.columns chances in
    get_random_note_count (if has_flag g.sound clap then double 1 1 else c.p2) c.p3 c.p4 c.p5 (double 0 1)

-- of 8 columns the special one too, where the sound has clap and finish: `has_special_column`
unfoldable pub add_special : HitObjectPatternGenerator → Pattern Note → ObjectRule (Pattern Note)
add_special g p =
    if ltb 0 (random_start g.columns) && (has_flag g.sound clap && has_flag g.sound finish) then add_note g 0 p
    else give p

-- `generate_random_pattern`
unfoldable pub generate_random_pattern : HitObjectPatternGenerator → Chances → ObjectRule (Pattern Note)
generate_random_pattern g chances = do
  n ← count_of g chances
  p ← generate_random_notes g n
  add_special g p

-- ---- mirrored

abbrev pub Mirrored : Type 0
Mirrored = MirrorChances

-- 1 − max((1 − p)·2, low)
unfoldable pub halved : Float → Float → Float
halved p low = Ieee.sub binary64 (double 1 1) (greatest (Ieee.mul binary64 (Ieee.sub binary64 (double 1 1) p) (double 2 1)) low)

-- the chances by column count
unfoldable pub mirrored_chances : ℕ → Mirrored → Mirrored
mirrored_chances columns m =
    if eqb columns 2 then record { centre = double 0 1; p2 = double 0 1; p3 = double 0 1 }
    else if eqb columns 3 then record { centre = least m.centre (double 3 100); p2 = double 0 1; p3 = double 0 1 }
    else if eqb columns 4 then record { centre = double 0 1; p2 = halved m.p2 (double 8 10); p3 = double 0 1 }
    else if eqb columns 5 then record { centre = least m.centre (double 3 100); p2 = m.p2; p3 = double 0 1 }
    else if eqb columns 6 then record { centre = double 0 1; p2 = halved m.p2 (double 5 100); p3 = halved m.p3 (double 85 100) }
    else m

-- a note and its mirror image
unfoldable pub add_pair : HitObjectPatternGenerator → ℕ → Pattern Note → ObjectRule (Pattern Note)
add_pair g c p = do
  q ← add_note g c p
  add_note g (image g.columns c) q

-- n pairs, each searched from the one before in the left half
unfoldable pub add_mirrored : HitObjectPatternGenerator → ℕ → ℕ → Pattern Note → ObjectRule (Pattern Note)
add_mirrored g zero c p = give p
add_mirrored g (suc n) c p = do
  d ← find_available_column Draw g.columns c (random_start g.columns) (g.columns / 2) p.mask
  q ← add_pair g d p
  add_mirrored g n d q

-- the note at the centre, if it comes
unfoldable pub add_centre : HitObjectPatternGenerator → Bool → Pattern Note → ObjectRule (Pattern Note)
add_centre g centre p = if centre then add_note g (g.columns / 2) p else give p

-- the mirrored pattern once its count of pairs is drawn, and whether a note comes at the centre
unfoldable pub mirror_from : HitObjectPatternGenerator → ℕ → Bool → ObjectRule (Pattern Note)
mirror_from g n centre = do
  c ← get_random_column (random_start g.columns) (g.columns / 2)
  p ← add_mirrored g n c empty
  q ← add_centre g centre p
  add_special g q

-- `add_to_centre`: an odd deck, not three notes, and a draw above 1 − centre
unfoldable pub at_centre : ℕ → ℕ → Float → Float → Bool
at_centre columns n centre val =
    not (eqb (columns % 2) 0) && not (eqb n 3) && lt (Ieee.sub binary64 (double 1 1) centre) val

-- the mirrored pattern, with `get_random_note_count_mirrored`: the centre's draw comes first
unfoldable pub mirror_notes : HitObjectPatternGenerator → Mirrored → ObjectRule (Pattern Note)
mirror_notes g chances = do
  let m = mirrored_chances g.columns chances
  v ← value
  n ← get_random_note_count (clamped (double 0 1) (double 1 1) m.p2) (clamped (double 0 1) (double 1 1) m.p3) (double 0 1) (double 0 1) (double 0 1)
  mirror_from g n (at_centre g.columns n m.centre (unit v))

-- x / 2
unfoldable pub half : Float → Float
half x = Ieee.div binary64 x (double 2 1)

-- the chances of a random pattern in place of a mirrored one
unfoldable pub unmirrored : Mirrored → Chances
unmirrored m =
    record { p2 = Ieee.add binary64 (half (double 1 1)) (half m.p2); p3 = m.p2; p4 = half (Ieee.add binary64 m.p2 m.p3); p5 = m.p3 }

-- `generate_random_pattern_with_mirrored`
unfoldable pub generate_random_pattern_with_mirrored : HitObjectPatternGenerator → Mirrored → ObjectRule (Pattern Note)
generate_random_pattern_with_mirrored g m =
    if contains g.flags force_not_stack then generate_random_pattern g (unmirrored m)
    else mirror_notes g m

-- ---- the branches in their order

-- the chances of a mirrored pattern by the conversion difficulty
unfoldable pub mirrored_by : Float → Mirrored
mirrored_by difficulty =
    if lt (double 65 10) difficulty then record { centre = double 12 100; p2 = double 38 100; p3 = double 12 100 }
    else if lt (double 4 1) difficulty then record { centre = double 12 100; p2 = double 17 100; p3 = double 0 1 }
    else record { centre = double 12 100; p2 = double 0 1; p3 = double 0 1 }

-- the chances of a random pattern by the conversion difficulty, smaller with `LOW_PROBABILITY`
unfoldable pub chances_by : Float → Bool → Chances
chances_by difficulty rare =
    if lt (double 65 10) difficulty then (if rare then percent 78 42 0 0 else percent 100 62 0 0)
    else if lt (double 4 1) difficulty then (if rare then percent 35 8 0 0 else percent 52 15 0 0)
    else if lt (double 2 1) difficulty then (if rare then percent 18 0 0 0 else percent 45 0 0 0)
    else percent 0 0 0 0

-- the previous pattern has notes
unfoldable pub some : HitObjectPatternGenerator → Bool
some g = not (eqb g.mask 0)

-- it has exactly one: a previous pattern lists each column once (`ListsOnce` of Previous)
unfoldable pub alone : HitObjectPatternGenerator → Bool
alone g = eqb (ones g.mask) 1

-- `CYCLE` turns a single note round, but not from the special column of 8 nor from the centre of an odd deck
unfoldable pub cycles : HitObjectPatternGenerator → Bool
cycles g =
    contains g.flags cycle && alone g
    && (not (eqb g.columns 8) || not (eqb g.last 0))
    && (eqb (g.columns % 2) 0 || not (eqb g.last (g.columns / 2)))

-- `generate_core`
unfoldable pub generate_core : HitObjectPatternGenerator → ObjectRule (Pattern Note)
generate_core g =
    if eqb g.columns 1 then add_note g 0 empty
    else if contains g.flags reverse && some g then reversed g
    else if cycles g then add_note g (image g.columns g.last) empty
    else if contains g.flags force_stack && some g then stacked g
    else if alone g && contains g.flags stair then add_note g (stair_column g) empty
    else if alone g && contains g.flags reverse_stair then add_note g (reverse_stair_column g) empty
    else if contains g.flags keep_single then generate_random_notes g 1
    else if contains g.flags mirror then generate_random_pattern_with_mirrored g (mirrored_by g.difficulty)
    else generate_random_pattern g (chances_by g.difficulty (contains g.flags low_probability))

-- ---- the whole rule

-- the stair after a note at column c: it turns at the ends of the deck. The Rust makes the two tests in the other order, and the later one counts
unfoldable pub turned : HitObjectPatternGenerator → ℕ → Stair → Stair
turned g c s =
    if contains g.flags reverse_stair && eqb c (random_start g.columns) then Up
    else if contains g.flags stair && eqb c (g.columns - 1) then Reverse
    else s

-- and after all of a pattern's notes
unfoldable pub stair_after : HitObjectPatternGenerator → Stair → List Note → Stair
stair_after g s [] = s
stair_after g s (n ∷ ns) = stair_after g (turned g n.column s) ns

-- `generate`: the circle's pattern, and the stair that the next object meets
unfoldable pub generate : HitObjectPatternGenerator → ObjectRule Made
generate g = do
  p ← generate_core g
  give (record { notes = p.notes; mask = p.mask; last = p.last; stair = stair_after g g.stair p.notes })
