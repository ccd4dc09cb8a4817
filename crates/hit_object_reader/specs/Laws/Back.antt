-- What is written is read back: numbers, then a line.
-- Assumes nothing.
use Rattle.std.specs.Prelude.{◌≡◌, refl, true, false, List, [], ◌∷◌, ◌++◌, ltb}
use Rattle.std.proofs.Common.{ap, ◌∙◌, ⊎_elim, append_assoc, mul-one, mul-le-mul_left, le_trans, le_of_lt, add-one, lt-ltb, le-leb, eq-eqb, ne_eqb}
use Rattle.std.proofs.Math.Option.{some, bind}
use Prim.Native.Nat.{ℕ, zero, suc, ◌+◌, ◌-◌, ◌*◌, ◌/◌, ◌%◌, ◌≤◌, ◌<◌, min}
use Rattle.std.proofs.Math.Nat.{div-add-mod', mod-lt}
use native.Mathlib.Omega.{arith}
use Rattle.std.proofs.Math.Seq.{drop-append_seam}
use Rattle.model.specs.Limits.{latest_end}
use Rattle.floats.specs.Whole.{above}
use Rattle.chart.specs.Laws.Times.{le_or_lt}
use Rattle.text.specs.Text.{ascii, digit, digits, places, decimal}
use Rattle.text.specs.Laws.{places_one, places_more}
use Rattle.hit_object_lines.specs.Lines.{Line, circle, hold, y_part, circle_part, hold_part, end_part, head_text, line_text, x_of}
use Rattle.hit_object_lines.specs.Reading.{is_digit, with_digit, digits_on, limited, number, starts_with, after, head, hold_on, kind_on, line, column_of}

-- ---- numbers

digit_code : (d : ℕ) → d < 10 → digit d ≡ 48 + d
unfolding digit
digit_code d h = rw (lt-ltb d 10 h)

code_digit : (d : ℕ) → d < 10 → is_digit (48 + d) ≡ true
unfolding is_digit
code_digit d h = rw (le-leb 48 (48 + d) (omega arith), le-leb (48 + d) 57 (omega arith))

-- one digit after a number
digit_on : (v d : ℕ) (r : List ℕ) → d < 10 → v * 10 + d ≤ latest_end → digits_on v (digit d ∷ r) ≡ digits_on (v * 10 + d) r
unfolding digits_on with_digit
digit_on v d r h k =
    let same : min (v * 10 + (48 + d - 48)) (latest_end + 1) ≡ v * 10 + d = omega arith in
    rw (digit_code d h) (rw (code_digit d h, same))

first_digit : (n : ℕ) (r : List ℕ) → 1 ≤ n → n < 10 → number (digit n ∷ r) ≡ limited (digits_on n r)
unfolding number
first_digit n r p h =
    let same : 48 + n - 48 ≡ n = omega arith in
    rw (digit_code n h) (rw (ne_eqb (48 + n) 48 (λ e. omega arith), code_digit n h, same))

one_digit : (k n : ℕ) (r : List ℕ) → 1 ≤ n → n < 10 → number (digits 10 (places k (ltb n 10) n) n ++ r) ≡ limited (digits_on n r)
unfolding digits
one_digit k n r p h = let own : n % 10 ≡ n = omega arith in rw (places_one k n h) (rw own (first_digit n r p h))

more_digits : (p n : ℕ) (r : List ℕ) → digits 10 (p + 1) n ++ r ≡ digits 10 p (n / 10) ++ (digit (n % 10) ∷ r)
unfolding digits
more_digits p n r = rw (add-one p) (append_assoc (digits 10 p (n / 10)) (digit (n % 10) ∷ []) r)

-- a number's digits, whatever follows
digits_read : (k n : ℕ) (r : List ℕ) → 1 ≤ n → n ≤ latest_end → n < 10 + k → number (digits 10 (places k (ltb n 10) n) n ++ r) ≡ limited (digits_on n r)
digits_read zero n r p l f = one_digit zero n r p (omega arith)
digits_read (suc k) n r p l f =
    ⊎_elim
    (λ (h : 10 ≤ n).
    let size : places (suc k) (ltb n 10) n ≡ places k (ltb (n / 10) 10) (n / 10) + 1 = let e : suc k - 1 ≡ k = omega arith in rw e at (places_more (suc k) n h (omega arith)) in
    let back : n / 10 * 10 + n % 10 ≡ n = div-add-mod' n 10 in
    rw size (rw (more_digits (places k (ltb (n / 10) 10) (n / 10)) n r)
    (digits_read k (n / 10) (digit (n % 10) ∷ r) (omega arith) (omega arith) (omega arith)
    ∙ ap limited (digit_on (n / 10) (n % 10) r (omega arith) (omega arith) ∙ ap (λ (v : ℕ). digits_on v r) back))))
    (λ (h : n < 10). one_digit (suc k) n r p h) (le_or_lt 10 n)

zero_read : (r : List ℕ) → number (decimal 0 ++ r) ≡ some (0, r)
unfolding number decimal digits places digit
zero_read r = refl

-- no digit follows
abbrev Stops : List ℕ → Type 0
Stops r = (v : ℕ) → digits_on v r ≡ (v, r)

pub number_back : (n : ℕ) (r : List ℕ) → n ≤ latest_end → Stops r → number (decimal n ++ r) ≡ some (n, r)
unfolding decimal limited
number_back zero r l stop = zero_read r
number_back (suc n) r l stop = digits_read (suc n) (suc n) r (omega arith) l (omega arith) ∙ rw (stop (suc n), le-leb (suc n) latest_end l)

-- ---- words

word_back : (word r : List ℕ) → starts_with word (word ++ r) ≡ true
unfolding starts_with
word_back [] r = refl
word_back (w ∷ word) r = rw (eq-eqb w w refl, word_back word r)

pub after_back : (word r : List ℕ) → after word (word ++ r) ≡ some r
unfolding after
after_back word r = rw (word_back word r, drop-append_seam word r)

stops_y : (r : List ℕ) → Stops (y_part ++ r)
unfolding y_part ascii digits_on is_digit
stops_y r v = refl

stops_circle : (r : List ℕ) → Stops (circle_part ++ r)
unfolding circle_part ascii digits_on is_digit
stops_circle r v = refl

stops_hold : (r : List ℕ) → Stops (hold_part ++ r)
unfolding hold_part ascii digits_on is_digit
stops_hold r v = refl

stops_end : (r : List ℕ) → Stops (end_part ++ r)
unfolding end_part ascii digits_on is_digit
stops_end r v = refl

no_circle : (r : List ℕ) → starts_with circle_part (hold_part ++ r) ≡ false
unfolding starts_with circle_part hold_part ascii
no_circle r = refl

-- ---- a line

head_back : (x start : ℕ) (r : List ℕ) → x ≤ latest_end → start ≤ latest_end → Stops r → head (head_text x start ++ r) ≡ some ((x, start), r)
unfolding head bind head_text
head_back x start r lx ls stop =
    let parts : (decimal x ++ y_part ++ decimal start) ++ r ≡ decimal x ++ (y_part ++ (decimal start ++ r)) =
    append_assoc (decimal x ++ y_part) (decimal start) r ∙ append_assoc (decimal x) y_part (decimal start ++ r) in
    rw parts (rw (number_back x (y_part ++ (decimal start ++ r)) lx (stops_y (decimal start ++ r)), after_back y_part (decimal start ++ r), number_back start r ls stop))

-- the numbers of a line that can be read
abbrev pub Few : Line → Type 0
Few (circle x start) = (x ≤ latest_end) × (start ≤ latest_end)
Few (hold x start end) = (x ≤ latest_end) × ((start ≤ latest_end) × (end ≤ latest_end))

pub line_back : (l : Line) (r : List ℕ) → Few l → line (line_text l ++ r) ≡ some (l, r)
unfolding line line_text bind kind_on hold_on
line_back (circle x start) r few =
    rw (append_assoc (head_text x start) circle_part r)
    (rw (head_back x start (circle_part ++ r) few.0 few.1 (stops_circle r), word_back circle_part r, drop-append_seam circle_part r))
line_back (hold x start end) r few =
    let parts : (head_text x start ++ hold_part ++ decimal end ++ end_part) ++ r ≡ head_text x start ++ (hold_part ++ (decimal end ++ (end_part ++ r))) =
    append_assoc (head_text x start ++ hold_part ++ decimal end) end_part r
    ∙ append_assoc (head_text x start ++ hold_part) (decimal end) (end_part ++ r)
    ∙ append_assoc (head_text x start) hold_part (decimal end ++ (end_part ++ r)) in
    rw parts
    (rw (
      head_back x start (hold_part ++ (decimal end ++ (end_part ++ r))) few.0 few.1.0 (stops_hold (decimal end ++ (end_part ++ r))),
      no_circle (decimal end ++ (end_part ++ r)),
      after_back hold_part (decimal end ++ (end_part ++ r)),
      number_back end (end_part ++ r) few.1.1 (stops_end r),
      after_back end_part r,
    ))

-- ---- a column

module _ (columns column : ℕ) (on : column < columns) (few : columns ≤ 9) where
  -- x · columns lies from column · 512 on, and less than `columns` beyond
  x_near : (column * 512 ≤ x_of columns column * columns) × (x_of columns column * columns < column * 512 + columns)
  unfolding x_of above
  x_near =
      let p : ℕ = (column * 512 + (columns - 1)) / columns * columns in
      let whole : p + (column * 512 + (columns - 1)) % columns ≡ column * 512 + (columns - 1) = div-add-mod' (column * 512 + (columns - 1)) columns in
      let rest : (column * 512 + (columns - 1)) % columns < columns = mod-lt (column * 512 + (columns - 1)) {m = columns} (omega arith) in
      near p ((column * 512 + (columns - 1)) % columns) whole rest
    where
      near : (p m : ℕ) → p + m ≡ column * 512 + (columns - 1) → m < columns → (column * 512 ≤ p) × (p < column * 512 + columns)
      near p m e h = (omega arith, omega arith)

  pub column_back : column_of columns (x_of columns column) ≡ column
  unfolding column_of
  column_back = own (x_of columns column * columns) x_near.0 x_near.1
    where
      own : (p : ℕ) → column * 512 ≤ p → p < column * 512 + columns → min (p / 512) (columns - 1) ≡ column
      own p h k = omega arith

  pub x_few : x_of columns column ≤ latest_end
  x_few = small (x_of columns column) (le_trans (le_mul_right (x_of columns column)) (le_of_lt x_near.1))
    where
      small : (x : ℕ) → x ≤ column * 512 + columns → x ≤ latest_end
      small x h = omega arith

      one_le : 1 ≤ columns
      one_le = omega arith

      le_mul_right : (x : ℕ) → x ≤ x * columns
      le_mul_right x = rw (mul-one x) at (mul-le-mul_left x one_le)
