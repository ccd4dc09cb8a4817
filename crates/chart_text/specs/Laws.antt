-- Laws of a chart's text that the proofs of the code cite.
-- Assumes nothing.
use Rattle.std.proofs.Math.Path.{◌≡◌, refl, sym}
use Rattle.std.specs.Prelude.{List, [], ◌∷◌, ◌++◌, ℕ, ◌+◌, ◌≤◌, ◌<◌, get_or, take}
use Rattle.std.proofs.Common.{append_assoc, append-nil, add-one, arith, take-suc}
use Rattle.std.proofs.Math.Option.{Option, none, some}
use Rattle.std.proofs.Math.ListN.{length}
use Rattle.chart.specs.Layout.{chart_size_in}
use Rattle.chart.specs.declared.Version.{Version}
use Rattle.chart.specs.declared.Version.TheVariants.{One}
use Rattle.chart.specs.declared.Note.{Note}
use Rattle.chart.specs.Chart.{Score, refused, accepted, reading, reading_of, decode, notes_read, notes_in, blank}
use Rattle.chart.specs.Laws.Reader.{notes_room}
use Rattle.chart_text.specs.Text.{head_line, note_line, note_lines, text_of, chart_text, text}

note_lines_more : (ns : List Note) (n : Note) → note_lines (ns ++ (n ∷ [])) ≡ note_lines ns ++ note_line n
unfolding note_lines
note_lines_more [] n = append-nil (note_line n)
note_lines_more (m ∷ ns) n = rw (note_lines_more ns n) (sym (append_assoc (note_line m) (note_lines ns) (note_line n)))

pub lines_none : (ns : List Note) → note_lines (take 0 ns) ≡ []
unfolding note_lines
lines_none ns = refl

pub lines_more : (k : ℕ) (ns : List Note) → k < length ns → note_lines (take (k + 1) ns) ≡ note_lines (take k ns) ++ note_line (get_or ns k blank)
lines_more k ns h = rw (add-one k, take-suc ns k blank h) (note_lines_more (take k ns) (get_or ns k blank))

-- ---- what the reader's answer says of the text

-- a chart of `notes` notes
pub record Text (s : List ℕ) (columns notes draws : ℕ) : Type 0 where
  pub size : chart_size_in One notes ≤ length s
  pub number : notes ≡ length (notes_in s)
  pub is : text s ≡ head_line columns notes draws ++ note_lines (notes_in s)

module _ (s : List ℕ) where
  read_by : (o : Option Score) → decode s ≡ o → (v : Version) (columns notes draws : ℕ) → reading_of o ≡ accepted v columns notes draws
      → (chart_size_in One notes ≤ length s) × (notes ≡ length (notes_read o)) × (text_of o ≡ head_line columns notes draws ++ note_lines (notes_read o))
  unfolding reading_of notes_read text_of chart_text
  read_by none e v columns notes draws h = absurd (let never : ◌≡◌ {A = ℕ} 0 1 = cc in omega arith)
  read_by (some c) e v columns notes draws h =
      let same_columns : c.columns ≡ columns = cc in
      let same_notes : length c.notes ≡ notes = cc in
      let same_draws : c.draws ≡ draws = cc in
      (rw (← same_notes) (notes_room s c e), sym same_notes, rw (same_columns, same_notes, same_draws))

  pub read_text : (v : Version) (columns notes draws : ℕ) → reading s ≡ accepted v columns notes draws → Text s columns notes draws
  unfolding reading text
  read_text v columns notes draws h = let k = read_by (decode s) refl v columns notes draws h in record { size = k.0; number = k.1; is = k.2 }

  refused_by_law : (o : Option Score) (number : ℕ) → reading_of o ≡ refused number → text_of o ≡ []
  unfolding reading_of text_of
  refused_by_law none number h = refl
  refused_by_law (some c) number h = absurd (let never : ◌≡◌ {A = ℕ} 0 1 = cc in omega arith)

  pub refused_text : (number : ℕ) → reading s ≡ refused number → text s ≡ []
  unfolding reading text
  refused_text number h = refused_by_law (decode s) number h
