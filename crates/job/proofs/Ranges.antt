-- The ranges of an accepted song's floats, as fractions. Assumes nothing.
use Rattle.std.specs.Prelude.{Option, Some, None}
use mathlib.Core.Path.{◌≡◌, refl}
use Prim.Native.Nat.{ℕ, ◌^◌, ◌≤◌}
use native.Mathlib.Omega.{arith}
use mathlib.Core.Bool.{false}
use mathlib.Core.List.{List}
use lib.Dec.{lit≤}
use lib.ListN.{length}
use lib.Ieee.{Float, binary64, round}
use lib.Ieee.Back.{round_whole}
use Rattle.model.specs.Limits.{most_repeats, most_entries, latest_start, longest_beat, longest_distance, multiplier_range, velocity_range}
use Rattle.floats.specs.Laws.Values.{Sized, sized}
use Rattle.floats.specs.Laws.Spans.{AtLeast, up_to, at_least}
use Rattle.model.specs.declared.TimingPoint.{TimingPoint}
use Rattle.model.specs.declared.DifficultyPoint.{DifficultyPoint}
use Rattle.model.specs.declared.Kind.{Kind}
use Rattle.model.specs.declared.Kind.TheVariants.{Circle, Slider, Spinner, Hold}
use Rattle.model.specs.declared.Object.{Object}
use Rattle.model.specs.Song.{Song}
use Rattle.record.specs.Record.{parse, accepted}
use Rattle.record.specs.Fit.{Bounded}
use Rattle.record.specs.Fit as Fit
use Rattle.record.proofs.Laws.Ranges as Read
use Rattle.rules.specs.Laws.Each.{each_map}
use Rattle.mania.specs.Steps.{double}
use Rattle.mania.specs.Range.{FewRepeats, InRange}
use Rattle.mania.specs.Demand.{Each}
use Rattle.job.proofs.Times.{Span}

abbrev pub FitDistance : Option Float → Type 0
FitDistance None = Unit {0}
FitDistance (Some d) = Span longest_distance d

abbrev pub FitKind : Kind → Type 0
FitKind Circle = Unit {0}
FitKind (Slider repeats distance sound) = (repeats ≤ most_repeats) × FitDistance distance
FitKind (Spinner d) = Span latest_start d
FitKind (Hold d) = Span latest_start d

abbrev pub FitObject : Object → Type 0
FitObject o = Span latest_start o.start × FitKind o.kind

pub record FitSong (s : Song) : Type 0 where
  pub objects : Each FitObject s.objects
  pub beats : Each (λ (t : TimingPoint). Span longest_beat t.beat) s.timing_points
  pub velocities : Each (λ (t : DifficultyPoint). AtLeast 10 t.velocity) s.difficulty_points
  pub multiplier : AtLeast 3 s.settings.multiplier
  pub few : length s.objects ≤ most_entries

-- ---- ranges as fractions

whole_sized : (n : ℕ) → n ≤ 2 ^ 53 → Sized (double n 1)
whole_sized n h = sized (double n 1) n 1 (round_whole binary64 false n h)

from_to : (lo hi : ℕ) (x : Float) → lo ≤ 2 ^ 53 → hi ≤ 2 ^ 53 → Bounded binary64 (record { low = double lo 1; high = double hi 1 }) x → Span hi x
from_to lo hi x l h b =
    record { exact = b.exact; range = up_to hi (double lo 1) (double hi 1) x (whole_sized lo l) (round_whole binary64 false hi h) b.inside }

velocity_least : AtLeast 10 velocity_range.low
unfolding round
velocity_least = record { size = (refl, refl); low = lit≤ tt }

multiplier_least : AtLeast 3 multiplier_range.low
unfolding round
multiplier_least = record { size = (refl, refl); low = lit≤ tt }

multiplier_most : Sized multiplier_range.high
unfolding round
multiplier_most = (refl, refl)

-- ---- the song

fit_distance : (d : Option Float) → Fit.FitDistance d → FitDistance d
fit_distance None h = tt
fit_distance (Some d) h = from_to _ longest_distance d (lit≤ tt) (lit≤ tt) h

fit_kind : (k : Kind) → Fit.FitKind k → FitKind k
fit_kind Circle h = tt
fit_kind (Slider repeats distance sound) h = (omega (arith, h.0), fit_distance distance h.1)
fit_kind (Spinner d) h = from_to _ latest_start d (lit≤ tt) (lit≤ tt) h
fit_kind (Hold d) h = from_to _ latest_start d (lit≤ tt) (lit≤ tt) h

fit_object : (o : Object) → Fit.FitObject o → FitObject o
fit_object o h = (from_to _ latest_start o.start (lit≤ tt) (lit≤ tt) h.start, fit_kind o.kind h.kind)

pub fit_song : (s : List ℕ) (g : Song) → parse s ≡ accepted g → FitSong g
fit_song s g e =
    let h = Read.fit_song s g e in
    record {
      objects = each_map Fit.FitObject FitObject fit_object g.objects h.objects;
      beats = each_map Fit.FitTiming (λ (t : TimingPoint). Span longest_beat t.beat) (λ t f. from_to _ longest_beat t.beat (lit≤ tt) (lit≤ tt) f.beat) g.timing_points h.timing;
      velocities =
          each_map Fit.FitDifficulty (λ (t : DifficultyPoint). AtLeast 10 t.velocity)
          (λ t f. at_least 10 velocity_range.low velocity_range.high t.velocity velocity_least (whole_sized _ (lit≤ tt)) f.velocity.inside)
          g.difficulty_points h.difficulty;
      multiplier = at_least 3 multiplier_range.low multiplier_range.high g.settings.multiplier multiplier_least multiplier_most h.settings.multiplier.inside;
      few = omega (arith, h.few_objects);
    }

-- ---- what a generator asks

few_repeats : (k : Kind) → FitKind k → FewRepeats k
few_repeats Circle h = tt
few_repeats (Slider repeats distance sound) h = h.0
few_repeats (Spinner d) h = tt
few_repeats (Hold d) h = tt

pub objects_in_range : (s : List ℕ) (g : Song) → parse s ≡ accepted g → Each InRange g.objects
objects_in_range s g e =
    each_map FitObject InRange (λ o h. record { start = h.0.range; repeats = few_repeats o.kind h.1 }) g.objects (fit_song s g e).objects
