-- The song of a record's bytes, and its summary. Assumes nothing.
use Rattle.std.specs.Prelude.{◌≡◌, List, ℕ, Float}
use Rattle.std.proofs.Common.{ap}
use Rattle.model.specs.Song.{Song}
use Rattle.model.specs.Totals.{first_start, last_start, sliders_and_spinners}
use Rattle.record.specs.declared.header.Counts.{Counts}
use Rattle.record.specs.declared.Summary.{Summary}
use Rattle.record.specs.Header.{keys_of, settings_of, counts_of}
use Rattle.record.specs.Section.{breaks, timing_points, difficulty_points, effect_points}
use Rattle.record.specs.Object.{objects, zero_start}
use Rattle.record.specs.Record.{places_of, record_refusal, song_of, counts_in, summary_of, accepted, parse}
use Rattle.record.specs.Laws.Entries.{length_entries}

-- its lists have as many entries as the counts say
pub counts_in_law : (s : List ℕ) → counts_in (song_of s) ≡ counts_of s
unfolding counts_in song_of counts_of breaks timing_points difficulty_points effect_points objects
counts_in_law s = simp length_entries

-- the summary as the code has it: by the bytes, the last start and the number of sliders and spinners
abbrev pub summary_by : List ℕ → Float → ℕ → Summary
summary_by s last long =
    record {
      keys = keys_of s;
      settings = settings_of s;
      counts = counts_of s;
      places = places_of (counts_of s);
      first = first_start (objects s (places_of (counts_of s)).objects (counts_of s).objects);
      last = last;
      long = long;
    }

by_counts : (song : Song) (n : Counts) → counts_in song ≡ n
    → summary_of song
    ≡ record {
      keys = song.keys;
      settings = song.settings;
      counts = n;
      places = places_of n;
      first = first_start song.objects;
      last = last_start zero_start song.objects;
      long = sliders_and_spinners song.objects;
    }
unfolding summary_of
by_counts song n e =
    ap
    (λ (n : Counts).
    record {
      keys = song.keys;
      settings = song.settings;
      counts = n;
      places = places_of n;
      first = first_start song.objects;
      last = last_start zero_start song.objects;
      long = sliders_and_spinners song.objects;
    })
    e

pub summary_of_law : (s : List ℕ)
    → summary_of (song_of s)
    ≡ summary_by s (last_start zero_start (objects s (places_of (counts_of s)).objects (counts_of s).objects))
    (sliders_and_spinners (objects s (places_of (counts_of s)).objects (counts_of s).objects))
unfolding song_of
summary_of_law s = by_counts (song_of s) (counts_of s) (counts_in_law s)

pub parse_accepted : (s : List ℕ) → record_refusal s ≡ 0 → parse s ≡ accepted (song_of s)
unfolding parse
parse_accepted s h = rw h
