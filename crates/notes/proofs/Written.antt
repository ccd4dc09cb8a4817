-- Rows of a chart written one after another, a row for each word. Assumes nothing.
use mathlib.Core.Path.{◌≡◌, refl, sym, ap, ◌∙◌}
use Prim.Native.Nat.{ℕ, ◌+◌, ◌*◌, ◌≤◌, ◌<◌}
use native.Mathlib.Numerals.{add-one}
use native.Mathlib.Omega.{arith}
use mathlib.Core.List.{List, [], ◌∷◌, ◌++◌, map, map-append, map-map}
use lib.ListN.{length, take, get_or, length-map}
use lib.Seq.{take-suc, take_all, length-take-le}
use Rattle.chart.specs.Layout.{note_size}
use Rattle.chart.specs.declared.Version.TheVariants.{Two}
use Rattle.chart.specs.declared.Note as Patterns
use Rattle.chart.specs.Bytes.{splice}
use Rattle.chart.specs.Laws.Bytes.{splice_none, splice_next, length_splice}
use Rattle.chart.specs.Chart.{note_bytes, body}
use Rattle.chart.specs.Laws.Notes.{length_body, body_append, body_one, length_note}
use Rattle.mania.specs.declared.Note.{Note}
use Rattle.mania.specs.Chart.{pattern_of}
use Rattle.mania.specs.Chart as Mania

module _ (row : ℕ → Patterns.Note) (words : List ℕ) where
  -- the bytes of the first i rows
  abbrev pub sofar : ℕ → List ℕ
  sofar i = body Two (map row (take i words))

  length_sofar : (i : ℕ) → i ≤ length words → length (sofar i) ≡ note_size * i
  length_sofar i h = length_body Two (map row (take i words)) ∙ ap (λ (n : ℕ). note_size * n) (length-map (take i words) row ∙ length-take-le i words h)

  sofar_more : (i : ℕ) → i < length words → sofar (i + 1) ≡ sofar i ++ note_bytes Two (row (get_or words i 0))
  sofar_more i h =
      let w = get_or words i 0 in
      ap (λ (ws : List ℕ). body Two (map row ws)) (ap (λ (k : ℕ). take k words) (add-one i) ∙ take-suc words i 0 h)
      ∙ ap (body Two) (map-append row (take i words) (w ∷ []))
      ∙ body_append Two (map row (take i words)) (row w ∷ [])
      ∙ ap (λ (v : List ℕ). sofar i ++ v) (body_one Two (row w))

  -- what a loop over the words keeps: the first i rows are written, and all other bytes are as they were
  pub record Wrote (s₀ : List ℕ) (s : List ℕ) (i : ℕ) : Type 0 where
    pub within : i ≤ length words
    pub room : note_size * length words ≤ length s₀
    pub is : s ≡ splice s₀ 0 (sofar i)
    pub size : length s ≡ length s₀

  pub none_yet : (s : List ℕ) → note_size * length words ≤ length s → Wrote s s 0
  unfolding body
  none_yet s h = record { within = omega arith; room = h; is = sym (splice_none s 0 (omega arith)); size = refl }

  -- one row more
  pub put_next : {n : Patterns.Note} {t : List ℕ} (s₀ : List ℕ) (s : List ℕ) (i : ℕ) → Wrote s₀ s i → i < length words
      → n ≡ row (get_or words i 0) → t ≡ splice s (note_size * i) (note_bytes Two n) → Wrote s₀ t (i + 1)
  put_next {n} {t} s₀ s i w h e f =
      let j : note_size * i ≡ length (sofar i) = sym (length_sofar i (omega arith)) in
      let is : t ≡ splice s₀ 0 (sofar (i + 1)) =
      f
      ∙ ap (λ (x : List ℕ). splice x (note_size * i) (note_bytes Two n)) w.is
      ∙ splice_next s₀ 0 (sofar i) (note_size * i) (note_bytes Two n) (omega (arith, j)) (omega (arith, length_note Two n))
      ∙ ap (splice s₀ 0) (ap (λ (m : Patterns.Note). sofar i ++ note_bytes Two m) e ∙ sym (sofar_more i (omega arith))) in
      let size : length t ≡ length s₀ = ap length is ∙ length_splice s₀ 0 (sofar (i + 1)) (omega (arith, length_sofar (i + 1) (omega arith))) in
      record { within = omega arith; room = w.room; is = is; size = size }

  -- all rows, as the notes whose patterns they are
  pub all_written : (k : ℕ) (note : ℕ → Note) (s₀ : List ℕ) (s : List ℕ) (i : ℕ) → Wrote s₀ s i → length words ≤ i → row ≡ (λ (w : ℕ). pattern_of k (note w))
      → s ≡ splice s₀ 0 (Mania.body k (map note words))
  unfolding Mania.body
  all_written k note s₀ s i w end e =
      let all : take i words ≡ words = take_all i words end in
      w.is
      ∙ ap (λ (ws : List ℕ). splice s₀ 0 (body Two (map row ws))) all
      ∙ ap (λ (f : ℕ → Patterns.Note). splice s₀ 0 (body Two (map f words))) e
      ∙ ap (λ (ns : List Patterns.Note). splice s₀ 0 (body Two ns)) (sym (map-map (pattern_of k) note words))
