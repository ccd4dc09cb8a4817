-- What survives writing and reading (specs/Claims): the notes of a chart with whole times are those of its lines (`back`), and the notes of a text are
-- a chart's with whole times (`made_well`).
-- Assumes nothing.
use mathlib.Core.Path.{◌≡◌, refl, sym, ap, ◌∙◌, subst}
use mathlib.Core.Bool.{Bool, true, false, cond}
use mathlib.Core.List.{List, map}
use mathlib.Core.Option.{Option, none, some}
use Prim.Native.Nat.{ℕ, ◌≤◌}
use native.Mathlib.Omega.{arith}
use lib.Dec.{leb}
use lib.ListN.{length, take}
use borrow.Author.Tests.{leb-true}
use Rattle.rules.specs.Numbers as Numbers
use Rattle.rules.specs.Each.{Each}
use Rattle.chart.specs.Layout.{chart_size_in}
use Rattle.chart.specs.declared.Version.{Version}
use Rattle.chart.specs.declared.Version.TheVariants.{One}
use Rattle.chart.specs.declared.Note.{Note}
use Rattle.chart.specs.Bytes.{splice}
use Rattle.chart.specs.Chart.{Score, decode, encode, Tells, Well}
use Rattle.chart.specs.RoundTrip.{encode_decode, decode_encode}
use Rattle.chart.specs.Laws.Bytes.{take_splice}
use Rattle.chart.specs.Laws.Notes.{length_encode}
use Rattle.hit_object_lines.specs.Lines.{Outcome, refused, written, stored, chart_lines, all_whole, writing, writing_of, writing_notes}
use Rattle.hit_object_lines.specs.Reading.{untold, notes_for, reading, reading_of}
use Rattle.hit_object_reader.specs.Claims.{Makes, Claims}
use Rattle.hit_object_reader.specs.Laws.Texts.{made}
use Rattle.hit_object_reader.specs.Laws.Wells.{length_untold, untold_same, back}
use Rattle.hit_object_reader.specs.Laws.Made.{made_well}

abbrev Result : Type 0
Result = Outcome × List ℕ

no_number : {n k : ℕ} → refused n ≡ written k → ⊥
no_number e = let y : ◌≡◌ {A = ℕ} 0 1 = cc in omega arith

-- ---- bytes that were stored

module _ (number : ℕ) (bytes buffer : List ℕ) (k : ℕ) (e : (stored number bytes buffer).0 ≡ written k) where
  pub stored_back : take k (stored number bytes buffer).1 ≡ bytes
  unfolding stored
  stored_back = by_test (leb (length bytes) (length buffer)) refl
    where
      by_test : (t : Bool) → leb (length bytes) (length buffer) ≡ t → take k (stored number bytes buffer).1 ≡ bytes
      by_test true h =
          let size : length bytes ≡ k = cc (ap (λ (r : Result). r.0) (ap (λ (t : Bool). cond {A = Result} t (written (length bytes), splice buffer 0 bytes) (refused number, buffer)) h)) in
          ap (λ (t : Bool). take k (cond {A = Result} t (written (length bytes), splice buffer 0 bytes) (refused number, buffer)).1) h ∙ take_splice buffer 0 bytes k (omega arith) size
      by_test false h = absurd (no_number (sym (ap (λ (t : Bool). (cond {A = Result} t (written (length bytes), splice buffer 0 bytes) (refused number, buffer)).0) h) ∙ e))

stored_refused : (number : ℕ) (bytes buffer : List ℕ) (n : ℕ) → (stored number bytes buffer).0 ≡ refused n → n ≡ number
unfolding stored
stored_refused number bytes buffer n e = by_test (leb (length bytes) (length buffer)) e
  where
    by_test : (t : Bool) → (cond {A = Result} t (written (length bytes), splice buffer 0 bytes) (refused number, buffer)).0 ≡ refused n → n ≡ number
    by_test true f = absurd (no_number (sym f))
    by_test false f = cc

-- ---- a chart that is made of notes

made_of : (text made₀ : List ℕ) (columns : ℕ) (ns : List Note) → notes_for columns text ≡ some ns → chart_size_in One (length ns) ≤ length made₀ → Makes (reading text columns made₀) columns ns
made_of text made₀ columns ns is fits =
    let w = (made_well columns text ns is).0 in
    let result = made columns text made₀ ns is fits in
    let size = length_encode One columns 0 ns in
    record {
      length_told = ap (λ (r : Result). r.0) result;
      read = ap (λ (r : Result). decode (take (chart_size_in One (length ns)) r.1)) result ∙ ap decode (take_splice made₀ 0 (encode One columns 0 ns) (chart_size_in One (length ns)) (omega arith) size) ∙ decode_encode One columns 0 ns w;
    }

-- a text that gave a chart has notes, and the chart is theirs
record Came (text made₀ : List ℕ) (columns k : ℕ) : Type 0 where
  notes : List Note
  are : notes_for columns text ≡ some notes
  fits : chart_size_in One (length notes) ≤ length made₀
  bytes : take k (reading text columns made₀).1 ≡ encode One columns 0 notes

came : (text made₀ : List ℕ) (columns k : ℕ) → (reading text columns made₀).0 ≡ written k → Came text made₀ columns k
unfolding reading reading_of stored
came text made₀ columns k e = by_notes (notes_for columns text) refl
  where
    room : (ns : List Note) (t : Bool) → leb (length (encode One columns 0 ns)) (length made₀) ≡ t
        → (cond {A = Result} t (written (length (encode One columns 0 ns)), splice made₀ 0 (encode One columns 0 ns)) (refused Numbers.chart_too_short, made₀)).0 ≡ written k → length (encode One columns 0 ns) ≤ length made₀
    room ns true h f = leb-true (length (encode One columns 0 ns)) (length made₀) h
    room ns false h f = absurd (no_number f)

    by_notes : (o : Option (List Note)) → notes_for columns text ≡ o → Came text made₀ columns k
    by_notes none h = absurd (no_number (sym (ap (λ (o : Option (List Note)). (reading_of columns o made₀).0) h) ∙ e))
    by_notes (some ns) h =
        let f = sym (ap (λ (o : Option (List Note)). (reading_of columns o made₀).0) h) ∙ e in
        record {
          notes = ns;
          are = h;
          fits = rw (← length_encode One columns 0 ns) (room ns (leb (length (encode One columns 0 ns)) (length made₀)) refl f);
          bytes = ap (λ (o : Option (List Note)). take k (reading_of columns o made₀).1) h ∙ stored_back Numbers.chart_too_short (encode One columns 0 ns) made₀ k f;
        }

-- ---- a chart that is written

-- its times are whole, and the text is its lines
wrote : (chart text : List ℕ) (c : Score) (k : ℕ) → decode chart ≡ some c → (writing chart text).0 ≡ written k
    → (all_whole c.notes ≡ true) × (take k (writing chart text).1 ≡ chart_lines c.columns c.notes)
unfolding writing writing_of writing_notes
wrote chart text c k is e = by_test (all_whole c.notes) refl
  where
    f : (writing_notes c.columns c.notes text).0 ≡ written k
    f = sym (ap (λ (o : Option Score). (writing_of o text).0) is) ∙ e

    lines : List ℕ
    lines = chart_lines c.columns c.notes

    by_test : (t : Bool) → all_whole c.notes ≡ t → (all_whole c.notes ≡ true) × (take k (writing chart text).1 ≡ lines)
    by_test true h =
        let g : (stored Numbers.text_too_short lines text).0 ≡ written k = sym (ap (λ (t : Bool). (cond {A = Result} t (stored Numbers.text_too_short lines text) (refused Numbers.not_whole, text)).0) h) ∙ f in (
          h,
          ap (λ (o : Option Score). take k (writing_of o text).1) is
              ∙ ap (λ (t : Bool). take k (cond {A = Result} t (stored Numbers.text_too_short lines text) (refused Numbers.not_whole, text)).1) h
              ∙ stored_back Numbers.text_too_short lines text k g,
        )
    by_test false h = absurd (no_number (sym (ap (λ (t : Bool). (cond {A = Result} t (stored Numbers.text_too_short lines text) (refused Numbers.not_whole, text)).0) h) ∙ f))

wrote_not : (chart text : List ℕ) (c : Score) (n : ℕ) → decode chart ≡ some c → all_whole c.notes ≡ true → (writing chart text).0 ≡ refused n → n ≡ Numbers.text_too_short
unfolding writing writing_of writing_notes
wrote_not chart text c n is whole e =
    let lines : List ℕ = chart_lines c.columns c.notes in
    stored_refused Numbers.text_too_short lines text n
    (sym (ap (λ (t : Bool). (cond {A = Result} t (stored Numbers.text_too_short lines text) (refused Numbers.not_whole, text)).0) whole) ∙ sym (ap (λ (o : Option Score). (writing_of o text).0) is) ∙ e)

-- ---- the claims

module _ (text made₀ : List ℕ) (columns k : ℕ) (e : (reading text columns made₀).0 ≡ written k) where
  got : Came text made₀ columns k
  got = came text made₀ columns k e

  own : Well One columns 0 got.notes × (all_whole got.notes ≡ true)
  own = made_well columns text got.notes got.are

  decoded : decode (take k (reading text columns made₀).1) ≡ some (record { version = One; columns = columns; draws = 0; notes = got.notes })
  decoded = ap decode got.bytes ∙ decode_encode One columns 0 got.notes own.0

  again : (buffer : List ℕ) (j : ℕ) → (writing (take k (reading text columns made₀).1) buffer).0 ≡ written j
      → reading (take j (writing (take k (reading text columns made₀).1) buffer).1) columns made₀ ≡ reading text columns made₀
  unfolding reading
  again buffer j f =
      let w = wrote (take k (reading text columns made₀).1) buffer (record { version = One; columns = columns; draws = 0; notes = got.notes }) j decoded f in
      ap (λ (s : List ℕ). reading s columns made₀) w.1 ∙ ap (λ (o : Option (List Note)). reading_of columns o made₀) (back One columns 0 got.notes own.0 own.1 ∙ ap some (untold_same got.notes own.0.objects_told) ∙ sym got.are)

pub claims : Claims
claims =
    record {
      survives = λ chart text made₀ c k h is e fits.
          let w = wrote chart text c k is e in
          let well = (encode_decode chart h c is).1 in
          subst (λ (s : List ℕ). Makes (reading s c.columns made₀) c.columns (map untold c.notes)) (sym w.1)
          (made_of (chart_lines c.columns c.notes) made₀ c.columns (map untold c.notes) (back c.version c.columns c.draws c.notes well w.0) (rw (length_untold c.notes) fits));
      old_same = λ chart c h is one. untold_same c.notes (subst (λ (v : Version). Each (λ n. Tells v n.origin) c.notes) one (encode_decode chart h c is).1.objects_told);
      readable = λ text made₀ columns k e. let g = came text made₀ columns k e in (g.notes, made_of text made₀ columns g.notes g.are g.fits);
      written_again = λ text made₀ buffer columns k n e f.
          wrote_not (take k (reading text columns made₀).1) buffer (record { version = One; columns = columns; draws = 0; notes = (got text made₀ columns k e).notes }) n (decoded text made₀ columns k e) (own text made₀ columns k e).1 f;
      read_again = λ text made₀ buffer columns k j e f. again text made₀ columns k e buffer j f;
    }
