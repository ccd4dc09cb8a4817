-- The indices that have a note, from the length of a chart that is read. Assumes nothing.
use mathlib.Core.Path.{◌≡◌, refl, sym, ap, ◌∙◌}
use mathlib.Core.Bool.{Bool, true, false, cond}
use mathlib.Core.List.{List}
use mathlib.Core.Option.{Option, none, some}
use Prim.Native.Nat.{ℕ, ◌+◌, ◌≤◌, ◌<◌}
use native.Mathlib.Omega.{arith}
use lib.Dec.{leb}
use lib.ListN.{length, drop}
use borrow.Author.Tests.{leb-true}
use Rattle.chart.specs.declared.Version.{Version}
use Rattle.chart.specs.declared.Version.TheVariants.{One, Two}
use Rattle.chart.specs.Layout.{chart_size_in, note_size_in}
use Rattle.chart.specs.Chart.{Score, reading, reading_of, decode, score_of, version_of, note_of, note_by, blank}
use Rattle.chart.specs.Laws.Reader.{read_score, read_size, note_read}
use Rattle.sumopine.specs.Numbers.{read_number, read_notes, is_found}
use Rattle.sumopine.specs.Notes.{Indices}

-- a chart that is taken has a score, with as many notes as are told
taken : (o : Option Score) → read_number (reading_of o) ≡ 0 → (c : Score) × ((o ≡ some c) × (read_notes (reading_of o) ≡ length c.notes))
unfolding reading_of
taken none e = absurd (omega arith)
taken (some c) e = (c, (refl, refl))

-- a note is found only where the bytes go on to its end
reaches : (v : Version) (s : List ℕ) (i : ℕ) → is_found (note_by v s i) ≡ 1 → chart_size_in v i + note_size_in v ≤ length s
unfolding note_by
reaches v s i = go (leb (chart_size_in v i + note_size_in v) (length s)) refl
  where
    go : (b : Bool) → leb (chart_size_in v i + note_size_in v) (length s) ≡ b → is_found (cond b (some (note_of v (drop (chart_size_in v i) s))) none) ≡ 1 → chart_size_in v i + note_size_in v ≤ length s
    go true e h = leb-true (chart_size_in v i + note_size_in v) (length s) e
    go false e h = absurd (omega arith)

-- the version is the header's
version_is : (s : List ℕ) (c : Score) → decode s ≡ some c → c.version ≡ version_of s
unfolding score_of
version_is s c e = ap (λ (t : Score). t.version) (sym (read_score s c e).1)

below_count : (v : Version) (i n m : ℕ) → chart_size_in v i + note_size_in v ≤ m → m ≡ chart_size_in v n → i < n
below_count One i n m h e = omega arith
below_count Two i n m h e = omega arith

pub indices : (chart : List ℕ) → Indices chart
unfolding reading
indices chart =
    record {
      below = λ e i h. let t = taken (decode chart) e in ap is_found (note_read chart t.0 t.1.0 i blank (omega (arith, t.1.1)));
      only = λ e i h.
          let t = taken (decode chart) e in
          let v = version_of chart in
          let size : length chart ≡ chart_size_in v (length t.0.notes) = read_size chart t.0 t.1.0 ∙ ap (λ (w : Version). chart_size_in w (length t.0.notes)) (version_is chart t.0 t.1.0) in
          omega (arith, t.1.1, below_count v i (length t.0.notes) (length chart) (reaches v chart i h) size);
    }
