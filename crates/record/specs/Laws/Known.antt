-- What a caller of `check_record` knows of an accepted record: its song, its lists by place and count, and what the lookups and the walk ask
-- (proofs/Laws/Known: it does); and that a refused check is a refused record. Assumes nothing.
use Rattle.std.specs.Prelude.{◌≡◌, List, length, drop, Err}
use Prim.Native.Nat.{ℕ, ◌/◌, ◌%◌, ◌<◌}
use Rattle.model.specs.Song.{Song}
use Rattle.model.specs.Totals.{first_start, last_start, sliders_and_spinners}
use Rattle.record.specs.declared.section.Section.TheVariants.{TimingPoints, DifficultyPoints, EffectPoints}
use Rattle.record.specs.declared.header.Counts.{Counts}
use Rattle.record.specs.declared.Summary.{Summary}
use Rattle.record.specs.Layout as At
use Rattle.record.specs.Header.{SmallCounts}
use Rattle.record.specs.Section.{breaks, timing_points, difficulty_points, effect_points}
use Rattle.record.specs.Object.{objects, zero_start}
use Rattle.record.specs.Lookup.{Rising}
use Rattle.record.specs.Record.{NearPlaces, song_of, Parsed, accepted, refused, parse, summary_of, checked_of}

-- a refused check is a refused record
refused_by_law : (p : Parsed) (n : ℕ) → checked_of p ≡ Err n → p ≡ refused n
refused_by_law (accepted song) n e = cc
refused_by_law (refused m) n e = cc

pub checked_refused : (s : List ℕ) (n : ℕ) → checked_of (parse s) ≡ Err n → parse s ≡ refused n
checked_refused s n e = refused_by_law (parse s) n e

-- ---- what is known

-- the song's points, one list after another from the first bit of the part on
pub record PointsAt (part : List ℕ) (song : Song) (n : Counts) : Type 0 where
  pub timing : song.timing_points ≡ timing_points part 0 n.timing
  pub difficulty : song.difficulty_points ≡ difficulty_points part (At.difficulty_points n.timing) n.difficulty
  pub effect : song.effect_points ≡ effect_points part (At.effect_points n.timing n.difficulty) n.effect
  pub timing_rises : Rising TimingPoints part 0 n.timing
  pub difficulty_rises : Rising DifficultyPoints part (At.difficulty_points n.timing) n.difficulty
  pub effect_rises : Rising EffectPoints part (At.effect_points n.timing n.difficulty) n.effect

pub record Known (s : List ℕ) (m : Summary) : Type 0 where
  pub parsed : parse s ≡ accepted (song_of s)
  pub summary : m ≡ summary_of (song_of s)
  pub keys : m.keys ≡ (song_of s).keys
  pub settings : m.settings ≡ (song_of s).settings
  pub first : m.first ≡ first_start (song_of s).objects
  pub last : m.last ≡ last_start zero_start (song_of s).objects
  pub long : m.long ≡ sliders_and_spinners (song_of s).objects
  pub small : SmallCounts m.counts
  pub near : NearPlaces m.places
  pub number : m.counts.objects ≡ length (song_of s).objects
  pub breaks : (song_of s).breaks ≡ breaks s At.breaks m.counts.breaks
  -- the song's points are those of the part that starts at the byte of the first timing point
  pub points : PointsAt (drop (m.places.timing / 8) s) (song_of s) m.counts
  -- the song's objects are those of the part that starts at the byte of the first object's first bit
  pub objects : (song_of s).objects ≡ objects (drop (m.places.objects / 8) s) (m.places.objects % 8) m.counts.objects
  -- and where there is an object, both bytes are there
  pub points_part : 0 < m.counts.objects → m.places.timing / 8 < length s
  pub objects_part : 0 < m.counts.objects → m.places.objects / 8 < length s
