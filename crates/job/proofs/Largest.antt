-- How long a chart can be, from how many notes an object makes (mania's proofs/Counts). Assumes nothing.
use mathlib.Core.Path.{◌≡◌, refl}
use mathlib.Core.Logic.{◌⊎◌, inl, inr}
use Prim.Native.Nat.{ℕ, ◌*◌, ◌≤◌, ◌<◌}
use native.Mathlib.Omega.{arith}
use mathlib.Core.List.{List}
use lib.ListN.{length}
use Rattle.model.specs.Limits.{most_notes, most_entries}
use Rattle.rules.specs.Numbers as Numbers
use Rattle.chart.specs.Layout.{header_size, chart_size}
use Rattle.model.specs.Song.{Song}
use Rattle.mania.specs.Refusals.{TooLong}
use Rattle.mania.proofs.Demand.{few_columns}
use Rattle.mania.proofs.Counts.{long_few}
use Rattle.record.specs.Record.{accepted, parse}
use Rattle.job.specs.Largest.{largest_chart, Largest}
use Rattle.job.proofs.Numbers.{accepted_keys}
use Rattle.job.proofs.Ranges.{fit_song, objects_in_range}
use Rattle.job.proofs.Read.{chart_few}
use Rattle.job.proofs.Refusals.{refusals}

too_long : (m k n : ℕ) → largest_chart ≤ m → m < chart_size k → k ≤ most_notes * n → n ≤ most_entries → ⊥
too_long m k n room long few objects = omega arith

pub largest : (bytes buffer : List ℕ) → Largest bytes buffer
largest bytes buffer =
    record {
      chart = λ a n g e. chart_few bytes buffer a n g e;
      enough = λ room a i n e.
          let c = ((refusals bytes buffer).holds a Numbers.chart_too_short i n e).short refl in
          never room c.0 c.1 a i n c.2;
    }
  where
    never : largest_chart ≤ length buffer → (s : Song) → parse bytes ≡ accepted s → (a i n : ℕ) → ((length buffer < header_size) × (i ≡ 0) × (n ≡ 0)) ⊎ TooLong s (length buffer) a i n → ⊥
    never room s e a i n (inl h) = omega (arith, h.0)
    never room s e a i n (inr t) =
        too_long (length buffer) _ (length s.objects) room t.long
        (long_few s (length buffer) a i n (few_columns s (accepted_keys bytes s e)) (objects_in_range bytes s e) t) (fit_song bytes s e).few
