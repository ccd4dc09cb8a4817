-- The whole record: `parse` gives its song, or the number of its refusal. Assumes nothing.
use Rattle.std.specs.Prelude.{ℕ, zero, suc, ◌+◌, ◌-◌, ◌*◌, ◌/◌, ◌≤◌, not, ◌||◌, List, ltb, eqb, length, Result, Ok, Err}
use Rattle.rules.specs.Numbers as Numbers
use Rattle.bits.specs.Field.{bits}
use Rattle.model.specs.Song.{Song}
use Rattle.model.specs.Totals.{first_start, last_start, sliders_and_spinners}
use Rattle.record.specs.declared.section.Section.TheVariants.{Breaks, TimingPoints, DifficultyPoints, EffectPoints}
use Rattle.record.specs.declared.header.Counts.{Counts}
use Rattle.record.specs.declared.header.Places.{Places}
use Rattle.record.specs.declared.Summary.{Summary}
use Rattle.record.specs.Layout as At
use Rattle.record.specs.Refusal.{◌gives◌, ◌then◌}
use Rattle.record.specs.Header.{header_refusal, keys_of, settings_of, counts_of}
use Rattle.record.specs.Section.{section_refusal, breaks, timing_points, difficulty_points, effect_points}
use Rattle.record.specs.Object.{objects_refusal, objects, objects_end, zero_start}

-- where each list starts, by the counts; the breaks follow the header
unfoldable pub places_of : Counts → Places
places_of n =
    let timing = At.breaks + At.entry * n.breaks in
    let difficulty = timing + At.entry * n.timing in
    let effect = difficulty + At.entry * n.difficulty in
    record { timing = timing; difficulty = difficulty; effect = effect; objects = effect + At.effect_entry * n.effect }

-- no list starts past bit 2,000,000
pub record NearPlaces (at : Places) : Type 0 where
  pub timing_le : at.timing ≤ 2000000
  pub difficulty_le : at.difficulty ≤ 2000000
  pub effect_le : at.effect ≤ 2000000
  pub objects_le : at.objects ≤ 2000000

-- the conditions of breaks and points
unfoldable pub lists_refusal : List ℕ → Counts → ℕ
unfolding section_refusal places_of
lists_refusal s n =
    section_refusal Breaks s At.breaks n.breaks
    then section_refusal TimingPoints s (places_of n).timing n.timing
    then section_refusal DifficultyPoints s (places_of n).difficulty n.difficulty
    then section_refusal EffectPoints s (places_of n).effect n.effect

-- after the last object, at bit p: a bit up to the end of its byte is not 0, or bytes follow
unfoldable pub fill_refusal : List ℕ → ℕ → ℕ
fill_refusal s p = (not (eqb (bits s p (8 * ((p + 7) / 8) - p)) 0) || ltb ((p + 7) / 8) (length s)) gives Numbers.filling

-- where the objects end
unfoldable pub record_end : List ℕ → ℕ
unfolding places_of counts_of objects_end
record_end s = objects_end s (places_of (counts_of s)).objects (counts_of s).objects

-- the conditions of all fields in record order
unfoldable pub record_refusal : List ℕ → ℕ
unfolding header_refusal lists_refusal places_of counts_of objects_refusal fill_refusal record_end
record_refusal s =
    header_refusal s
    then lists_refusal s (counts_of s)
    then objects_refusal s (places_of (counts_of s)).objects (counts_of s).objects
    then fill_refusal s (record_end s)

-- the values of all fields
unfoldable pub song_of : List ℕ → Song
unfolding keys_of settings_of places_of counts_of breaks timing_points difficulty_points effect_points objects
song_of s =
    let n = counts_of s in
    let at = places_of n in
    record {
      keys = keys_of s;
      settings = settings_of s;
      breaks = breaks s At.breaks n.breaks;
      timing_points = timing_points s at.timing n.timing;
      difficulty_points = difficulty_points s at.difficulty n.difficulty;
      effect_points = effect_points s at.effect n.effect;
      objects = objects s at.objects n.objects;
    }

pub data Parsed : Type 0 where
  accepted : Song → Parsed
  refused : ℕ → Parsed

abbrev pub parsed_by : ℕ → Song → Parsed
parsed_by zero song = accepted song
parsed_by (suc n) song = refused (suc n)

-- a record is accepted where no condition applies; else it is refused with the number of the first that does
unfoldable pub parse : List ℕ → Parsed
unfolding record_refusal song_of
parse s = parsed_by (record_refusal s) (song_of s)

-- ---- what the check of a record returns

unfoldable pub counts_in : Song → Counts
counts_in song =
    record {
      breaks = length song.breaks;
      timing = length song.timing_points;
      difficulty = length song.difficulty_points;
      effect = length song.effect_points;
      objects = length song.objects;
    }

unfoldable pub summary_of : Song → Summary
unfolding counts_in places_of zero_start
summary_of song =
    record {
      keys = song.keys;
      settings = song.settings;
      counts = counts_in song;
      places = places_of (counts_in song);
      first = first_start song.objects;
      last = last_start zero_start song.objects;
      long = sliders_and_spinners song.objects;
    }

abbrev pub checked_of : Parsed → Result Summary ℕ
checked_of (accepted song) = Ok (summary_of song)
checked_of (refused n) = Err n
