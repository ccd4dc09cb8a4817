-- A job, from how its walk ended. Assumes nothing.
use mathlib.Core.Path.{◌≡◌, refl, sym, ap, ap₂, ◌∙◌, subst}
use Prim.Native.Nat.{ℕ, ◌-◌, ◌≤◌, ◌<◌}
use native.Mathlib.Nat.{zero-add, sub_self}
use mathlib.Core.List.{List, []}
use lib.ListN.{length, drop}
use borrow.Author.Tests.{le-ltb, lt-ltb}
use Rattle.rules.specs.Rule.{ended}
use Rattle.random.specs.Generator.{seeded}
use Rattle.random.specs.Play.{found, refused, tallied, play}
use Rattle.std.specs.Prelude.{Ok}
use Rattle.random.specs.declared.Draws.{Draws}
use Rattle.random.specs.Laws.Allowance.{found_run, refused_run}
use Rattle.record.specs.Record.{parse, accepted, song_of}
use Rattle.record.specs.Record as Record
use Rattle.chart.specs.Layout.{chart_size}
use Rattle.chart.specs.declared.Note as Patterns
use Rattle.chart.specs.Bytes.{splice}
use Rattle.chart.specs.Chart.{encode, notes_of}
use Rattle.chart.specs.Chart as Bytes
use Rattle.chart.specs.Order.{arranged}
use Rattle.chart.specs.Laws.Notes.{length_encode, splice_holds}
use Rattle.chart.specs.Laws.Order.{length_arranged}
use Rattle.chart.specs.Laws.Arranged.{finished}
use Rattle.model.specs.Song.{Song}
use Rattle.mania.specs.declared.Note.{Note}
use Rattle.chart.specs.declared.Version.TheVariants.{Two}
use Rattle.mania.specs.Chart.{patterns_from, written}
use Rattle.mania.specs.Convert.{seed, columns_of, convert}
use Rattle.mania.specs.Job.{Job, ending, refusing, under}
use Rattle.mania.specs.Job as OfSong
use Rattle.mania.specs.Walked.{Stop, stop, spent_at, refused_at, on_walk}
use Rattle.mania.specs.Laws.Walks.{job_made, job_stopped, splice_start, length_patterns}
use Rattle.walk.specs.Steps.{Written}
use Rattle.job.specs.Job.{job_of, job}
use Rattle.job.proofs.Read.{fits_all}
use Rattle.convert.specs.Ends.{job_end, song_rule}

-- a refusal leaves nothing of the buffer but its length
pub only_length : (n i d : ℕ) (b c : List ℕ) → length b ≡ length c → refusing n i d b ≡ refusing n i d c
unfolding refusing
only_length n i d b c e = rw e

-- a refused record
pub refused_job : (bytes buffer : List ℕ) (a n : ℕ) → parse bytes ≡ Record.refused n → refusing n 0 0 buffer ≡ job bytes buffer a
unfolding job job_of
refused_job bytes buffer a n e = sym (ap (λ p. job_of p buffer a) e)

module _ (bytes buffer : List ℕ) (a : ℕ) (parsed : parse bytes ≡ accepted (song_of bytes)) where
  abbrev S : Song
  S = song_of bytes

  abbrev start : Draws
  start = tallied a 0 (seeded (seed S.settings))

  job_is : job bytes buffer a ≡ OfSong.job S buffer a
  unfolding job job_of
  job_is = ap (λ p. job_of p buffer a) parsed

  -- with eight bytes there is a walk
  walked : 8 ≤ length buffer → on_walk (convert S (length buffer)) start ≡ song_rule bytes (length buffer) start
  unfolding convert
  walked h = rw (le-ltb (length buffer) 8 h)

  pub short : length buffer < 8 → refusing 11 0 0 buffer ≡ job bytes buffer a
  unfolding convert play
  short h =
      let none : on_walk (convert S (length buffer)) start ≡ refused (stop 0 11) start = rw (lt-ltb (length buffer) 8 h) in
      ap (λ (n : ℕ). refusing 11 0 n buffer) (sym (sub_self a)) ∙ sym (job_is ∙ job_stopped S buffer a (stop 0 11) start none)

  pub stopped_job : 8 ≤ length buffer → (n i : ℕ) (e : Draws) → song_rule bytes (length buffer) start ≡ refused (stop i n) e → refusing n i (a - e.tally.left) buffer ≡ job bytes buffer a
  stopped_job h n i e k = sym (job_is ∙ job_stopped S buffer a (stop i n) e (walked h ∙ k))

  pub found_left : (room : ℕ) (nss : List (List Note)) (e : Draws) → song_rule bytes room start ≡ found nss e → e.tally.left ≤ a
  found_left room nss e k = (found_run spent_at refused_at _ start nss e k).1

  pub refused_left : (room : ℕ) (x : Stop) (e : Draws) → song_rule bytes room start ≡ refused x e → e.tally.left ≤ a
  refused_left room x e k = (refused_run spent_at refused_at _ start {B = Unit {0}} (λ o. tt) (λ y n. tt) (λ p n. refl) (λ r n. refl) x e k).1

  module _ (h : 8 ≤ length buffer) (exit : List ℕ) (notes : ℕ) (e : Draws) (w : Written (song_rule bytes (length buffer) start) buffer exit notes e) where
    abbrev ps : List Patterns.Note
    ps = patterns_from 0 w.nss

    abbrev n : ℕ
    n = a - e.tally.left

    ends : under S buffer a ≡ ended w.nss n
    unfolding under
    ends = (found_run spent_at refused_at (convert S (length buffer)) start w.nss e (walked h ∙ w.says)).0

    made : OfSong.job S buffer a ≡ ending (columns_of S) buffer e.tally.longest (ended w.nss n)
    made = job_made S buffer a w.nss e (walked h ∙ w.says)

    counted : length ps ≡ notes
    counted = length_patterns 0 w.nss ∙ sym w.number

    long : length (encode Two (columns_of S) n (arranged [] ps)) ≡ chart_size notes
    long =
        length_encode Two (columns_of S) n (arranged [] ps)
        ∙ ap (λ (k : ℕ). chart_size k) (length_arranged [] ps ∙ zero-add (length ps) ∙ counted)

    -- the notes stand behind the header's place
    pub made_holds : Bytes.Holds Two exit 8 notes
    made_holds =
        let all = splice_holds Two buffer 8 ps h (fits_all bytes buffer S parsed a n w.nss ends) in
        subst (λ (k : ℕ). Bytes.Holds Two exit 8 k) counted (subst (λ (s : List ℕ). Bytes.Holds Two s 8 (length ps)) (sym w.written) all)

    pub made_job : (columns size : ℕ) (last : List ℕ) → columns ≡ columns_of S → size ≡ chart_size notes
        → last ≡ splice exit 0 (encode Two columns n (arranged [] (notes_of Two notes (drop 8 exit)))) → job_end last (Ok (record { length = size; longest = e.tally.longest })) ≡ job bytes buffer a
    unfolding ending
    made_job columns size last c z f =
        let room : chart_size (length ps) ≤ length buffer = subst (λ (k : ℕ). chart_size k ≤ length buffer) (sym counted) w.room in
        let whole : splice exit 0 (encode Two columns n (arranged [] (notes_of Two notes (drop 8 exit)))) ≡ written (encode Two (columns_of S) n (arranged [] ps)) buffer =
        ap₂ (λ (k q : ℕ). splice exit 0 (encode Two k n (arranged [] (notes_of Two q (drop 8 exit))))) c (sym counted)
        ∙ finished buffer exit (columns_of S) n ps w.written room (fits_all bytes buffer S parsed a n w.nss ends)
        ∙ splice_start buffer (encode Two (columns_of S) n (arranged [] ps)) in
        ap₂ {C = Job} (λ (k : ℕ) (v : List ℕ). record { answer = OfSong.accepted k e.tally.longest; chart = v }) (z ∙ sym long) (f ∙ whole)
        ∙ sym (job_is ∙ made)
