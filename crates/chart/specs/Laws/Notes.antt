-- Notes in bytes: what they say, and what is stored of them.
-- Assumes nothing.
use Rattle.std.specs.Prelude.{◌≡◌, refl, Bool, true, false, cond, leb, get_or, take, set, None, Some, Option}
use Rattle.std.proofs.Common.{sym, ap, ap₂, ◌∙◌, ⊎_elim, add-zero, add-one, arith, length-drop, take_at, drop-drop, get_or-drop, length-take-le, le-leb}
use mathlib.Core.List.{List, [], ◌∷◌, ◌++◌, append_assoc, append-nil}
use Prim.Native.Nat.{ℕ, zero, suc, ◌+◌, ◌*◌, ◌/◌, ◌%◌, ◌^◌, ◌≤◌, ◌<◌}
use Rattle.std.proofs.Math.ListN.{length, drop, length-append}
use Rattle.std.proofs.Math.Seq.{drop_at}
use Rattle.std.proofs.lemmas.Bool.{lt-leb}
use Rattle.rules.specs.Each.{Each}
use Rattle.chart.specs.Layout.{chart_size_in, note_size_in, head_size, column_unit, hold_unit, zero_unit, version_number, column_values}
use Rattle.chart.specs.declared.Version.{Version}
use Rattle.chart.specs.declared.Version.TheVariants.{One, Two}
use Rattle.chart.specs.declared.Note.{Note}
use Rattle.chart.specs.Bytes.{Bytes, be, num, splice}
use Rattle.chart.specs.Chart.{index, head, note_bytes, body, header, encode, head_of, origin_of, note_of, notes_of, Holds, Tells}
use Rattle.chart.specs.Laws.Bytes.{length_be, num_be, be_num, num_fits, bytes_drop, splice_one, splice_front, splice_next}
use Rattle.chart.specs.Laws.Times.{le_or_lt}

-- ---- sizes

pub size_is : (v : Version) → note_size_in v ≡ head_size v + 16
size_is One = refl
size_is Two = refl

pub size_next : (v : Version) (k : ℕ) → note_size_in v * suc k ≡ note_size_in v + note_size_in v * k
size_next One k = omega arith
size_next Two k = omega arith

-- ---- lengths and joins

pub length_note : (v : Version) (n : Note) → length (note_bytes v n) ≡ note_size_in v
unfolding note_bytes
length_note v n =
    length-append (be (head_size v) (head v n)) (be 8 n.start ++ be 8 n.duration)
    ∙ omega (arith, size_is v, length_be (head_size v) (head v n), length-append (be 8 n.start) (be 8 n.duration), length_be 8 n.start, length_be 8 n.duration)

pub body_cons : (v : Version) (n : Note) (ns : List Note) → body v (n ∷ ns) ≡ note_bytes v n ++ body v ns
unfolding body
body_cons v n ns = refl

pub body_append : (v : Version) (xs ys : List Note) → body v (xs ++ ys) ≡ body v xs ++ body v ys
unfolding body
body_append v [] ys = refl
body_append v (x ∷ xs) ys = ap (λ (t : List ℕ). note_bytes v x ++ t) (body_append v xs ys) ∙ sym (append_assoc (note_bytes v x) (body v xs) (body v ys))

pub body_one : (v : Version) (n : Note) → body v (n ∷ []) ≡ note_bytes v n
unfolding body
body_one v n = append-nil (note_bytes v n)

pub length_body : (v : Version) (ns : List Note) → length (body v ns) ≡ note_size_in v * length ns
unfolding body
length_body v [] = sym (nothing v)
  where
    nothing : (v : Version) → note_size_in v * 0 ≡ 0
    nothing One = refl
    nothing Two = refl
length_body v (n ∷ ns) = length-append (note_bytes v n) (body v ns) ∙ rw (length_note v n, length_body v ns) (sym (size_next v (length ns)))

pub length_header : (v : Version) (columns count draws : ℕ) → length (header v columns count draws) ≡ 8
unfolding header
length_header v columns count draws = ap suc (length-append (be 3 count) (be 4 draws) ∙ omega (arith, length_be 3 count, length_be 4 draws))

pub length_encode : (v : Version) (columns draws : ℕ) (ns : List Note) → length (encode v columns draws ns) ≡ chart_size_in v (length ns)
unfolding encode
length_encode v columns draws ns =
    length-append (header v columns (length ns) draws) (body v ns) ∙ rw (length_header v columns (length ns) draws, length_body v ns)

pub length_notes_of : (v : Version) (k : ℕ) (s : List ℕ) → length (notes_of v k s) ≡ k
unfolding notes_of
length_notes_of v zero s = refl
length_notes_of v (suc k) s = ap suc (length_notes_of v k (drop (note_size_in v) s))

-- ---- the bytes that code reads and stores

-- a note of version 2
pub note_at_law : {h b d : ℕ} (s : List ℕ) (i : ℕ) → h ≡ num 3 (drop i s) → b ≡ num 8 (drop (i + 3) s) → d ≡ num 8 (drop (i + 11) s)
    → ◌≡◌ {A = Note} (record { column = h / column_unit Two; hold = leb (hold_unit Two) (h % column_unit Two); origin = origin_of Two h; start = b; duration = d }) (note_of Two (drop i s))
unfolding note_of
note_at_law s i h b d = rw (drop-drop 3 i s, drop-drop 11 i s, h, b, d)

-- and of version 1, whose head is one byte
pub head_one : (s : List ℕ) → head_of One s ≡ get_or s 0 0
unfolding num
head_one s = omega arith

pub note_at_one : {b d : ℕ} (s : List ℕ) (i : ℕ) → b ≡ num 8 (drop (i + 1) s) → d ≡ num 8 (drop (i + 9) s)
    → ◌≡◌ {A = Note} (record { column = get_or s i 0 / 16; hold = leb 8 (get_or s i 0 % 16); origin = None; start = b; duration = d }) (note_of One (drop i s))
unfolding note_of
note_at_one s i b d = rw (head_one (drop i s), get_or-drop i s 0 0, add-zero i, drop-drop 1 i s, drop-drop 9 i s, b, d)

-- the stores of a note's bytes, one by one
module _ (v : Version) (s : List ℕ) (i j k : ℕ) (n : Note) (first : j ≡ i + head_size v) (second : k ≡ i + (head_size v + 8)) (l : i + note_size_in v ≤ length s) where
  pub note_put : splice (splice (splice s i (be (head_size v) (head v n))) j (be 8 n.start)) k (be 8 n.duration) ≡ splice s i (note_bytes v n)
  unfolding note_bytes
  note_put =
      let h : List ℕ = be (head_size v) (head v n) in
      let b : List ℕ = be 8 n.start in
      let d : List ℕ = be 8 n.duration in
      let a = length_be (head_size v) (head v n) in
      let e = length_be 8 n.start in
      let f = length_be 8 n.duration in
      let z = size_is v in
      rw (splice_next s i h j b (omega arith) (omega arith))
      (splice_next s i (h ++ b) k d (omega (arith, length-append h b)) (omega arith) ∙ rw (append_assoc h b d))

  pub note_put_mid : splice (splice (splice s j (be 8 n.start)) i (be (head_size v) (head v n))) k (be 8 n.duration) ≡ splice s i (note_bytes v n)
  unfolding note_bytes
  note_put_mid =
      let h : List ℕ = be (head_size v) (head v n) in
      let b : List ℕ = be 8 n.start in
      let d : List ℕ = be 8 n.duration in
      let a = length_be (head_size v) (head v n) in
      let e = length_be 8 n.start in
      let f = length_be 8 n.duration in
      let z = size_is v in
      rw (splice_front s i j h b (omega arith) (omega arith))
      (splice_next s i (h ++ b) k d (omega (arith, length-append h b)) (omega arith) ∙ rw (append_assoc h b d))

pub header_put : (v : Version) (s : List ℕ) (columns count draws : ℕ) → 8 ≤ length s
    → splice (splice (set s 0 (version_number v * 16 + columns)) 1 (be 3 count)) 4 (be 4 draws) ≡ splice s 0 (header v columns count draws)
unfolding header
header_put v s columns count draws l =
    let a : ℕ = version_number v * 16 + columns in
    let b : List ℕ = be 3 count in
    let first : 4 ≡ 0 + length (a ∷ b) = omega (arith, length_be 3 count) in
    rw (splice_one s 0 a (omega arith))
    (rw (splice_next s 0 (a ∷ []) 1 b refl (omega (arith, length_be 3 count)))
    (splice_next s 0 (a ∷ b) 4 (be 4 draws) first (omega (arith, length_be 4 draws))))

-- a header, and then the notes
pub encode_put : (v : Version) (s : List ℕ) (columns draws : ℕ) (ns : List Note) → chart_size_in v (length ns) ≤ length s
    → splice (splice s 0 (header v columns (length ns) draws)) 8 (body v ns) ≡ splice s 0 (encode v columns draws ns)
unfolding encode
encode_put v s columns draws ns l =
    splice_next s 0 (header v columns (length ns) draws) 8 (body v ns) (omega (arith, length_header v columns (length ns) draws)) (rw (length_body v ns) l)

-- ---- what is read back

-- what a head says, as a number x
pub record Says (v : Version) (c : ℕ) (h : Bool) (o : Option ℕ) (x : ℕ) : Type 0 where
  pub column : x / column_unit v ≡ c
  pub hold : leb (hold_unit v) (x % column_unit v) ≡ h
  pub origin : origin_of v x ≡ o
  pub zeros : x % zero_unit v ≡ 0
  pub fits : c < column_values → x < 256 ^ head_size v

says : (v : Version) (c : ℕ) (h : Bool) (o : Option ℕ) → Tells v o → Says v c h o (c * column_unit v + cond h (hold_unit v) 0 + index o * zero_unit v)
unfolding Tells
says One c true None t = record { column = omega arith; hold = le-leb 8 ((c * 16 + 8 + 0 * 8) % 16) (omega arith); origin = refl; zeros = omega arith; fits = λ l. omega arith }
says One c false None t = record { column = omega arith; hold = lt-leb 8 ((c * 16 + 0 + 0 * 8) % 16) (omega arith); origin = refl; zeros = omega arith; fits = λ l. omega arith }
says One c h (Some i) t = absurd t
says Two c h None t = absurd t
says Two c true (Some i) t =
    let same : (c * 1048576 + 524288 + i * 128) / 128 % 4096 ≡ i = omega arith in
    record { column = omega arith; hold = le-leb 524288 ((c * 1048576 + 524288 + i * 128) % 1048576) (omega arith); origin = rw same; zeros = omega arith; fits = λ l. omega arith }
says Two c false (Some i) t =
    let same : (c * 1048576 + 0 + i * 128) / 128 % 4096 ≡ i = omega arith in
    record { column = omega arith; hold = lt-leb 524288 ((c * 1048576 + 0 + i * 128) % 1048576) (omega arith); origin = rw same; zeros = omega arith; fits = λ l. omega arith }

pub head_says : (v : Version) (n : Note) → Tells v n.origin → Says v n.column n.hold n.origin (head v n)
unfolding head
head_says v n t = says v n.column n.hold n.origin t

-- the numbers of a note fit its fields
pub record Fit (v : Version) (n : Note) : Type 0 where
  pub column : n.column < column_values
  pub told : Tells v n.origin
  pub start : n.start < 2 ^ 64
  pub duration : n.duration < 2 ^ 64

pub head_of_law : (v : Version) (n : Note) (r : List ℕ) → Fit v n → head_of v (note_bytes v n ++ r) ≡ head v n
unfolding note_bytes
head_of_law v n r f =
    rw (append_assoc (be (head_size v) (head v n)) (be 8 n.start ++ be 8 n.duration) r)
    (num_be (head_size v) (head v n) ((be 8 n.start ++ be 8 n.duration) ++ r) ((head_says v n f.told).fits f.column))

behind_head : (v : Version) (n : Note) (r : List ℕ) → drop (head_size v) (note_bytes v n ++ r) ≡ be 8 n.start ++ (be 8 n.duration ++ r)
unfolding note_bytes
behind_head v n r =
    let h : List ℕ = be (head_size v) (head v n) in
    let t : List ℕ = be 8 n.start ++ be 8 n.duration in
    rw (append_assoc h t r) (drop_at h (t ++ r) (head_size v) (length_be (head_size v) (head v n)) ∙ append_assoc (be 8 n.start) (be 8 n.duration) r)

pub note_back : (v : Version) (n : Note) (r : List ℕ) → Fit v n → note_of v (note_bytes v n ++ r) ≡ n
unfolding note_of
note_back v n r f =
    let k = head_says v n f.told in
    let b : List ℕ = be 8 n.start in
    let d : List ℕ = be 8 n.duration in
    let from : drop (head_size v) (note_bytes v n ++ r) ≡ b ++ (d ++ r) = behind_head v n r in
    let from_8 : drop (head_size v + 8) (note_bytes v n ++ r) ≡ d ++ r =
    sym (drop-drop 8 (head_size v) (note_bytes v n ++ r)) ∙ ap (drop 8) from ∙ drop_at b (d ++ r) 8 (length_be 8 n.start) in
    rw (head_of_law v n r f, k.column, k.hold, k.origin, from, from_8, num_be 8 n.start (d ++ r) f.start, num_be 8 n.duration r f.duration)

-- a head whose last bits are zero is that of what it says
head_back : (v : Version) (x : ℕ) → x % zero_unit v ≡ 0
    → x ≡ x / column_unit v * column_unit v + cond (leb (hold_unit v) (x % column_unit v)) (hold_unit v) 0 + index (origin_of v x) * zero_unit v
head_back One x z =
    ⊎_elim (λ (l : 8 ≤ x % 16). rw (le-leb 8 (x % 16) l) (omega arith)) (λ (l : x % 16 < 8). rw (lt-leb 8 (x % 16) l) (omega arith)) (le_or_lt 8 (x % 16))
head_back Two x z =
    ⊎_elim (λ (l : 524288 ≤ x % 1048576). rw (le-leb 524288 (x % 1048576) l) (omega arith)) (λ (l : x % 1048576 < 524288). rw (lt-leb 524288 (x % 1048576) l) (omega arith)) (le_or_lt 524288 (x % 1048576))

-- the bytes of a note with zero bits in their place are those of the note that they say
pub row_back : (v : Version) (s : List ℕ) → note_size_in v ≤ length s → Bytes s → head_of v s % zero_unit v ≡ 0 → s ≡ note_bytes v (note_of v s) ++ drop (note_size_in v) s
unfolding note_bytes note_of head
row_back v s l h z =
    let k : ℕ = head_size v in
    let w = size_is v in
    let x : List ℕ = be k (head_of v s) in
    let b : List ℕ = be 8 (num 8 (drop k s)) in
    let d : List ℕ = be 8 (num 8 (drop (k + 8) s)) in
    let end : k + 8 + 8 ≡ note_size_in v = omega arith in
    let third : drop (k + 8) s ≡ d ++ drop (note_size_in v) s =
    be_num 8 (drop (k + 8) s) (rw (length-drop (k + 8) s) (omega arith)) (bytes_drop (k + 8) s h) ∙ ap (λ (t : List ℕ). d ++ t) (drop-drop 8 (k + 8) s ∙ ap (λ (m : ℕ). drop m s) end) in
    let second : drop k s ≡ b ++ drop (k + 8) s = be_num 8 (drop k s) (rw (length-drop k s) (omega arith)) (bytes_drop k s h) ∙ ap (λ (t : List ℕ). b ++ t) (drop-drop 8 k s) in
    let all : s ≡ x ++ (b ++ (d ++ drop (note_size_in v) s)) =
    be_num k s (omega arith) h ∙ ap (λ (t : List ℕ). x ++ t) (second ∙ ap (λ (t : List ℕ). b ++ t) third) in
    all ∙ sym (append_assoc x (b ++ d) (drop (note_size_in v) s) ∙ ap (λ (t : List ℕ). x ++ t) (append_assoc b d (drop (note_size_in v) s))) ∙ rw (← head_back v (head_of v s) z)

fit_origin : (v : Version) (x : ℕ) → Tells v (origin_of v x)
unfolding Tells
fit_origin One x = tt
fit_origin Two x = omega arith

head_small : (v : Version) (x : ℕ) → x < 256 ^ head_size v → x / column_unit v < column_values
head_small One x h = omega arith
head_small Two x h = omega arith

pub fit_note : (v : Version) (s : List ℕ) → Bytes s → Fit v (note_of v s)
unfolding note_of
fit_note v s h =
    record {
      column = head_small v (head_of v s) (num_fits (head_size v) s h);
      told = fit_origin v (head_of v s);
      start = num_fits 8 (drop (head_size v) s) (bytes_drop (head_size v) s h);
      duration = num_fits 8 (drop (head_size v + 8) s) (bytes_drop (head_size v + 8) s h);
    }

-- each of the notes fits
abbrev pub Fits : Version → List Note → Type 0
Fits v ns = Each (Fit v) ns

pub fits_notes : (v : Version) (k : ℕ) (s : List ℕ) → Bytes s → Fits v (notes_of v k s)
unfolding notes_of
fits_notes v zero s h = tt
fits_notes v (suc k) s h = (fit_note v s h, fits_notes v k (drop (note_size_in v) s) (bytes_drop (note_size_in v) s h))

-- notes that were stored are read back
pub notes_back : (v : Version) (ns : List Note) (r : List ℕ) → Fits v ns → notes_of v (length ns) (body v ns ++ r) ≡ ns
unfolding notes_of body
notes_back v [] r f = refl
notes_back v (n ∷ ns) r f =
    rw (append_assoc (note_bytes v n) (body v ns) r)
    (ap₂ (λ (a : Note) (b : List Note). a ∷ b) (note_back v n (body v ns ++ r) f.0)
    (rw (drop_at (note_bytes v n) (body v ns ++ r) (note_size_in v) (length_note v n)) (notes_back v ns r f.1)))

module _ (v : Version) (s : List ℕ) (i : ℕ) (ns : List Note) (within : i ≤ length s) where
  after : drop i (splice s i (body v ns)) ≡ body v ns ++ drop (i + length (body v ns)) s
  unfolding splice
  after = drop_at (take i s) (body v ns ++ drop (i + length (body v ns)) s) i (length-take-le i s within)

  pub splice_notes : Fits v ns → notes_of v (length ns) (drop i (splice s i (body v ns))) ≡ ns
  splice_notes f = rw after (notes_back v ns (drop (i + length (body v ns)) s) f)

  pub splice_holds : Fits v ns → Holds v (splice s i (body v ns)) i (length ns)
  unfolding Holds
  splice_holds f = rw (splice_notes f) (rw after (take_at (body v ns) (drop (i + length (body v ns)) s) (note_size_in v * length ns) (length_body v ns)))

-- one more note
pub notes_more : (v : Version) (k : ℕ) (s : List ℕ) → notes_of v (k + 1) s ≡ notes_of v k s ++ (note_of v (drop (note_size_in v * k) s) ∷ [])
unfolding notes_of
notes_more v k s = rw (add-one k) (more k s)
  where
    none : (v : Version) → note_size_in v * 0 ≡ 0
    none One = refl
    none Two = refl

    more : (k : ℕ) (s : List ℕ) → notes_of v (suc k) s ≡ notes_of v k s ++ (note_of v (drop (note_size_in v * k) s) ∷ [])
    more zero s = rw (none v)
    more (suc k) s =
        ap (λ (t : List Note). note_of v s ∷ t) (more k (drop (note_size_in v) s) ∙ rw (drop-drop (note_size_in v * k) (note_size_in v) s, size_next v k))

-- the note of an index
pub notes_at : (v : Version) (k : ℕ) (s : List ℕ) (i : ℕ) (d : Note) → i < k → get_or (notes_of v k s) i d ≡ note_of v (drop (note_size_in v * i) s)
unfolding notes_of
notes_at v zero s i d h = absurd (omega arith)
notes_at One (suc k) s zero d h = refl
notes_at Two (suc k) s zero d h = refl
notes_at v (suc k) s (suc i) d h = notes_at v k (drop (note_size_in v) s) i d (omega arith) ∙ rw (drop-drop (note_size_in v * i) (note_size_in v) s, size_next v i)

pub row_at : (v : Version) (k : ℕ) (s : List ℕ) (from i : ℕ) (d : Note) → i < k → get_or (notes_of v k (drop from s)) i d ≡ note_of v (drop (from + note_size_in v * i) s)
row_at v k s from i d h = notes_at v k (drop from s) i d h ∙ rw (drop-drop (note_size_in v * i) from s)
