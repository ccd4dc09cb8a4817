-- Numbers, words, lines and texts from an index on. Assumes nothing.
use Rattle.std.specs.Prelude.{◌≡◌, true, false, ◌&&◌, List, [], ◌∷◌, ℕ, suc, ◌+◌, ◌-◌, ◌≤◌, ◌<◌, eqb, length, get_or, drop, None}
use Rattle.std.proofs.Common.{sym, ap, ◌∙◌, subst, arith, length-drop}
use Rattle.std.proofs.Math.Option.{none, some, bind, map}
use Rattle.std.proofs.Math.Numerals.{add-one}
use Rattle.std.proofs.Math.ListN.{drop_of_length-le}
use Rattle.std.proofs.Math.Seq.{drop-cons}
use borrow.Author.Tests.{eq-eqb, ne_eqb, le-leb, lt-leb, lt-ltb, le-ltb}
use Rattle.model.specs.Limits.{latest_end}
use Rattle.chart.specs.Layout.{most_in_chart}
use Rattle.chart.specs.declared.Note.{Note}
use Rattle.chart.specs.Tests.{both}
use Rattle.hit_object_lines.specs.Lines.{circle, hold}
use Rattle.hit_object_lines.specs.Reading.{is_digit, with_digit, digits_on, limited, number, starts_with, line, column_of, time_of, note_of_line, note_on, notes_on}
use Rattle.hit_object_reader.specs.Laws.Texts as Texts
use Rattle.hit_object_reader.specs.Laws.Texts.{none_left, count_from}

-- the index after what was read: above the first one, and not past the end
pub record Past (size at next : ℕ) : Type 0 where
  pub forward : at < next
  pub within : next ≤ size

-- what is read later is also past what came before
pub past_later : (size at next k : ℕ) → at ≤ next → Past size next k → Past size at k
past_later size at next k h p = record { forward = omega (arith, p.forward); within = p.within }

module _ (s : List ℕ) (i : ℕ) where
  -- ---- digits

  module _ (v : ℕ) where
    pub digits_end : length s ≤ i → (v, drop i s) ≡ digits_on v (drop i s)
    unfolding digits_on
    digits_end l = rw (drop_of_length-le s l)

    pub digits_next : i < length s → is_digit (get_or s i 0) ≡ true → digits_on v (drop i s) ≡ digits_on (with_digit v (get_or s i 0)) (drop (i + 1) s)
    unfolding digits_on
    digits_next l h = rw (drop-cons s i 0 l, h, add-one i)

    pub digits_stop : i < length s → is_digit (get_or s i 0) ≡ false → (v, drop i s) ≡ digits_on v (drop i s)
    unfolding digits_on
    digits_stop l h = rw (drop-cons s i 0 l, h)

  -- ---- a number

  pub number_end : length s ≤ i → none ≡ number (drop i s)
  unfolding number
  number_end l = rw (drop_of_length-le s l)

  module _ (l : i < length s) where
    pub number_zero : get_or s i 0 ≡ 48 → some (0, drop (i + 1) s) ≡ number (drop i s)
    unfolding number
    number_zero e = rw (drop-cons s i 0 l, e, add-one i)

    module _ (other : get_or s i 0 ≡ 48 → ⊥) where
      pub number_sign : is_digit (get_or s i 0) ≡ false → none ≡ number (drop i s)
      unfolding number
      number_sign h = rw (drop-cons s i 0 l, ne_eqb (get_or s i 0) 48 other, h)

      module _ (v : ℕ) (r : List ℕ) (h : is_digit (get_or s i 0) ≡ true) (run : (v, r) ≡ digits_on (get_or s i 0 - 48) (drop (i + 1) s)) where
        reading : number (drop i s) ≡ limited (v, r)
        unfolding number
        reading = rw (drop-cons s i 0 l, ne_eqb (get_or s i 0) 48 other, h, ← add-one i, run)

        pub number_large : latest_end < v → none ≡ number (drop i s)
        unfolding limited
        number_large k = rw reading (rw (lt-leb v latest_end k))

        pub number_is : v ≤ latest_end → some (v, r) ≡ number (drop i s)
        unfolding limited
        number_is k = rw reading (rw (le-leb v latest_end k))

-- ---- a word

module _ (word s : List ℕ) (i j : ℕ) where
  pub word_end : length word ≤ i → starts_with (drop i word) (drop j s) ≡ true
  unfolding starts_with
  word_end l = rw (drop_of_length-le word l)

  module _ (more : i < length word) where
    pub word_short : length s ≤ j → starts_with (drop i word) (drop j s) ≡ false
    unfolding starts_with
    word_short l = rw (drop-cons word i 0 more, drop_of_length-le s l)

    module _ (l : j < length s) where
      word_here : starts_with (drop i word) (drop j s) ≡ eqb (get_or s j 0) (get_or word i 0) && starts_with (drop (i + 1) word) (drop (j + 1) s)
      unfolding starts_with
      word_here = rw (drop-cons word i 0 more, drop-cons s j 0 l, add-one i, add-one j)

      pub word_next : get_or s j 0 ≡ get_or word i 0 → starts_with (drop i word) (drop j s) ≡ starts_with (drop (i + 1) word) (drop (j + 1) s)
      word_next e = word_here ∙ rw (eq-eqb (get_or s j 0) (get_or word i 0) e)

      pub word_other : (get_or s j 0 ≡ get_or word i 0 → ⊥) → starts_with (drop i word) (drop j s) ≡ false
      word_other e = word_here ∙ rw (ne_eqb (get_or s j 0) (get_or word i 0) e)

-- a word is no longer than what begins with it
pub word_fits : (word s : List ℕ) → starts_with word s ≡ true → length word ≤ length s
unfolding starts_with
word_fits [] s h = omega arith
word_fits (w ∷ word) [] h = absurd (let z : ◌≡◌ {A = ℕ} 0 1 = cc in omega arith)
word_fits (w ∷ word) (c ∷ s) h = omega (arith, word_fits word s (both (eqb c w) (starts_with word s) h).1)

-- the part that a word takes
pub word_room : (word s : List ℕ) (i : ℕ) → i ≤ length s → starts_with word (drop i s) ≡ true → i + length word ≤ length s
word_room word s i l h = omega (arith, word_fits word (drop i s) h, length-drop i s)

-- what an answer says, once its case is known
pub got : {A B : Type 0} (told : A → B) (In : A → Type 0) {r : A} (k : A) (d : B) → r ≡ k → told r ≡ d → In r → (d ≡ told k) × In k
got told In k d e t i = (sym t ∙ ap told e, subst In e i)

-- ---- a line's note

module _ (columns : ℕ) (s : List ℕ) where
  pub row_circle : (x start : ℕ) (t : List ℕ) → line s ≡ some (circle x start, t)
      → some (record { column = column_of columns x; hold = false; origin = None; start = time_of start; duration = 0 }, t) ≡ note_on columns s
  unfolding note_on bind note_of_line
  row_circle x start t e = rw e

  module _ (x start end : ℕ) (t : List ℕ) (e : line s ≡ some (hold x start end, t)) where
    pub row_short : end ≤ start → none ≡ note_on columns s
    unfolding note_on bind note_of_line
    row_short h = rw (e, le-ltb start end h)

    pub row_hold : start < end → some (record { column = column_of columns x; hold = true; origin = None; start = time_of start; duration = time_of (end - start) }, t) ≡ note_on columns s
    unfolding note_on bind note_of_line
    row_hold h = rw (e, lt-ltb start end h)

-- ---- the lines of a text

module _ (columns : ℕ) (s : List ℕ) where
  pub text_end : (k at : ℕ) → length s ≤ at → notes_on k columns (drop at s) ≡ some []
  text_end k at l = rw (drop_of_length-le s l) (none_left columns k)

  module _ (k at : ℕ) (l : at < length s) where
    pub text_none : note_on columns (drop at s) ≡ none → notes_on (suc k) columns (drop at s) ≡ none
    unfolding notes_on bind
    text_none e = rw (drop-cons s at 0 l) (rw (rw (drop-cons s at 0 l) at e))

    pub text_next : (n : Note) (r : List ℕ) → note_on columns (drop at s) ≡ some (n, r) → notes_on (suc k) columns (drop at s) ≡ map (λ ns. n ∷ ns) (notes_on k columns r)
    unfolding notes_on bind
    text_next n r e = rw (drop-cons s at 0 l) (rw (rw (drop-cons s at 0 l) at e))

pub count_full : (last columns k at : ℕ) (s : List ℕ) → at < length s → count_from last most_in_chart (notes_on (suc k) columns (drop at s)) ≡ none
count_full last columns k at s l = Texts.count_full last columns k (drop at s) (omega (arith, length-drop at s))
