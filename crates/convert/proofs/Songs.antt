-- What the walk takes of a song is the song's. Assumes nothing.
use mathlib.Core.Path.{◌≡◌, sym, ap, ◌∙◌, subst}
use Prim.Native.Nat.{ℕ, suc, ◌-◌, ◌/◌, ◌%◌, ◌≤◌}
use native.Mathlib.Omega.{arith}
use mathlib.Core.List.{List, [], ◌∷◌}
use lib.Ieee.{Float, round, of_int}
use lib.Dec.{lit≤}
use lib.ListN.{length, take, drop}
use Rattle.bits.specs.Laws.Fields.{rest_part}
use Rattle.rules.specs.Each.{Each}
use Rattle.model.specs.declared.Kind.{Kind}
use Rattle.model.specs.declared.Kind.TheVariants.{Circle, Slider, Spinner, Hold}
use Rattle.model.specs.declared.Object.{Object}
use Rattle.model.specs.Song.{Song}
use Rattle.model.specs.Totals.{break_time, longer, sliders_and_spinners}
use Rattle.record.specs.declared.Summary.{Summary}
use Rattle.record.specs.Layout as At
use Rattle.record.specs.Record.{song_of, parse, accepted}
use Rattle.record.specs.Refusal.{entries}
use Rattle.record.specs.Section.{breaks}
use Rattle.record.specs.Lookup.{Rising}
use Rattle.record.specs.Object.{zero_start, objects}
use Rattle.record.specs.Laws.Known.{Known, PointsAt}
use Rattle.record.proofs.Laws.Ranges.{fit_song}
use Rattle.mania.specs.Steps.{double}
use Rattle.mania.specs.Convert.{SongFacts, columns_by, target_columns, keys_or, columns_of, difficulty_of, song_facts, beginning, walk}
use Rattle.mania.specs.PatternGenerator.{difficulty_by, conversion_difficulty}
use Rattle.mania.proofs.Demand.{some_columns, few_columns}
use Rattle.mania.specs.Range.{InRange}
use Rattle.job.proofs.Ranges.{objects_in_range}
use Rattle.settings.specs.Accepted.{Accepted}
use Rattle.walk.specs.declared.Song as Walk
use Rattle.std.specs.Prelude.{Result}
use Rattle.walk.specs.declared.Stopped.{Stopped}
use Rattle.walk.specs.Steps.{given_facts, Given, rule, Ends}
use Rattle.random.specs.declared.Draws.{Draws}
use Rattle.mania.specs.Walked.{on_walk}
use Rattle.convert.specs.Ends.{numbers_of, without_points, song_rule}

-- sliders and spinners are among the objects
one_longer : (k : Kind) (m n : ℕ) → m ≤ n → longer k m ≤ suc n
unfolding longer
one_longer Circle m n h = omega arith
one_longer (Slider repeats distance sound) m n h = omega arith
one_longer (Spinner d) m n h = omega arith
one_longer (Hold d) m n h = omega arith

pub long_le : (os : List Object) → sliders_and_spinners os ≤ length os
unfolding sliders_and_spinners
long_le [] = omega arith
long_le (o ∷ os) = one_longer o.kind (sliders_and_spinners os) (length os) (long_le os)

pub accepted_settings : (bytes : List ℕ) (s : Song) → parse bytes ≡ accepted s → Accepted s.settings
unfolding of_int
accepted_settings bytes s e =
    let fit = (fit_song bytes s e).settings in
    record { hp = fit.hp.inside; cs = fit.cs.inside; od = fit.od.inside; ar = fit.ar.inside }

module _ (bytes : List ℕ) (m : Summary) (k : Known bytes m) where
  pub columns_are : (c : ℕ) → c ≡ keys_or m.keys (columns_by m.settings m.long m.counts.objects) → c ≡ columns_of (song_of bytes)
  unfolding columns_of target_columns
  columns_are c e = rw (← k.keys, ← k.settings, ← k.long, ← k.number) e

  pub difficulty_is : (x b : Float) → b ≡ break_time (double 0 1) (breaks bytes At.breaks m.counts.breaks) → x ≡ difficulty_by m.settings b m.first m.last m.counts.objects
      → x ≡ difficulty_of (song_of bytes)
  unfolding difficulty_of conversion_difficulty zero_start round
  difficulty_is x b e f = f ∙ rw (e, ← k.breaks, k.settings, k.first, k.last, k.number)

  pub settings_accepted : Accepted m.settings
  settings_accepted = subst Accepted (sym k.settings) (accepted_settings bytes (song_of bytes) k.parsed)

-- ---- the walk over the parts is the walk over the song

module _ (bytes : List ℕ) (m : Summary) (k : Known bytes m) where
  abbrev S : Song
  S = song_of bytes

  abbrev numbers : Walk.Song
  numbers = numbers_of S m.counts

  -- the slices handed to the walk
  abbrev from : ℕ → List ℕ
  from i = take (length bytes - i) (drop i bytes)

  abbrev points : List ℕ
  points = from (m.places.timing / 8)

  abbrev part : List ℕ
  part = from (m.places.objects / 8)

  pub deck : (1 ≤ columns_of S) × (columns_of S ≤ 9)
  deck = (some_columns S, few_columns S (fit_song bytes S k.parsed).keys)

  lists : PointsAt points S m.counts
  lists = subst (λ (p : List ℕ). PointsAt p S m.counts) (sym (rest_part bytes (m.places.timing / 8))) k.points

  all : objects part (m.places.objects % 8) m.counts.objects ≡ S.objects
  all = ap (λ (p : List ℕ). objects p (m.places.objects % 8) m.counts.objects) (rest_part bytes (m.places.objects / 8)) ∙ sym k.objects

  pub objects_are_in : Each InRange (objects part (m.places.objects % 8) m.counts.objects)
  objects_are_in = subst (Each InRange) (sym all) (objects_in_range bytes S k.parsed)

  facts_are : given_facts points numbers ≡ song_facts S
  unfolding song_facts
  facts_are = rw (← lists.timing, ← lists.difficulty, ← lists.effect)

  -- what the walk asks, and what it then follows
  pub given : (g : Walk.Song) → g ≡ numbers → Given points g
  given g e =
      subst (λ (h : Walk.Song). Given points h) (sym e)
      (record {
        low = deck.0;
        high = deck.1;
        timing_le = k.small.timing_le;
        difficulty_le = k.small.difficulty_le;
        effect_le = k.small.effect_le;
        timing_rises = lists.timing_rises;
        difficulty_rises = lists.difficulty_rises;
        effect_rises = lists.effect_rises;
      })

  pub played : (g : Walk.Song) → g ≡ numbers → (entry exit : List ℕ) (d : Draws) (r : Result (ℕ × Draws) Stopped)
      → Ends (rule points part g (length entry) (m.places.objects % 8) m.counts.objects d) entry exit r → Ends (song_rule bytes (length entry) d) entry exit r
  played g e entry exit d r h =
      subst (λ (os : List Object). Ends (on_walk (walk (song_facts S) (columns_of S) (length entry) 0 beginning os) d) entry exit r) all
      (subst (λ (f : SongFacts). Ends (on_walk (walk f (columns_of S) (length entry) 0 beginning (objects part (m.places.objects % 8) m.counts.objects)) d) entry exit r) facts_are
      (subst (λ (x : Walk.Song). Ends (rule points part x (length entry) (m.places.objects % 8) m.counts.objects d) entry exit r) e h))

  -- without objects: no point plays a part
  pub given_none : (g : Walk.Song) → g ≡ without_points numbers → Given [] g
  unfolding Rising
  given_none g e =
      subst (λ (h : Walk.Song). Given [] h) (sym e)
      (record {
        low = deck.0;
        high = deck.1;
        timing_le = lit≤ tt;
        difficulty_le = lit≤ tt;
        effect_le = lit≤ tt;
        timing_rises = λ i l. absurd (omega arith);
        difficulty_rises = λ i l. absurd (omega arith);
        effect_rises = λ i l. absurd (omega arith);
      })

  pub played_none : 0 ≡ m.counts.objects → (g : Walk.Song) → g ≡ without_points numbers → (entry exit : List ℕ) (d : Draws) (r : Result (ℕ × Draws) Stopped)
      → Ends (rule [] [] g (length entry) 0 0 d) entry exit r → Ends (song_rule bytes (length entry) d) entry exit r
  unfolding walk objects entries
  played_none none g e entry exit d r h =
      subst (λ (os : List Object). Ends (on_walk (walk (song_facts S) (columns_of S) (length entry) 0 beginning os) d) entry exit r)
      (ap (objects part (m.places.objects % 8)) none ∙ all)
      (subst (λ (x : Walk.Song). Ends (rule [] [] x (length entry) 0 0 d) entry exit r) e h)
