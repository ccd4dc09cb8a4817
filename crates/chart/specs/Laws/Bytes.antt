-- Numbers in bytes are read back, bytes that are read are the only ones for their number, and how splices join.
-- Assumes nothing.
use Rattle.std.specs.Prelude.{◌≡◌, refl, List, [], ◌∷◌, ◌++◌, ℕ, zero, suc, ◌+◌, ◌-◌, ◌*◌, ◌/◌, ◌%◌, ◌^◌, ◌≤◌, ◌<◌, length, get_or, take, drop, set}
use Rattle.std.proofs.Common.{sym, ap, ◌∙◌, append_assoc, pow-suc, add-zero, add-one, arith, length-append, length-drop, take-append-drop, take_at, take-take, drop_at, length-take-le, drop-drop, drop-cons, get_or-drop, take-suc}
use Rattle.std.proofs.lemmas.List.{take-append-le, get_or_at, set_split, set_at}
use Rattle.chart.specs.Bytes.{Bytes, be, num, splice}

-- ---- numbers

pub be_suc : (k x : ℕ) → be (suc k) x ≡ be k (x / 256) ++ (x % 256 ∷ [])
unfolding be
be_suc k x = refl

pub be_zero : (x : ℕ) → be 0 x ≡ []
unfolding be
be_zero x = refl

pub num_suc : (k : ℕ) (s : List ℕ) → num (suc k) s ≡ num k s * 256 + get_or s k 0
unfolding num
num_suc k s = refl

pub length_be : (k x : ℕ) → length (be k x) ≡ k
unfolding be
length_be zero x = refl
length_be (suc k) x = length-append (be k (x / 256)) (x % 256 ∷ []) ∙ omega (arith, length_be k (x / 256))

-- a number that fits its bytes is read back
pub num_be : (k x : ℕ) (r : List ℕ) → x < 256 ^ k → num k (be k x ++ r) ≡ x
unfolding num be
num_be zero x r h = omega arith
num_be (suc k) x r h =
    let room : x < 256 ^ k * 256 = rw pow-suc at h in
    let b = be k (x / 256) in
    rw (append_assoc b (x % 256 ∷ []) r)
    (rw (num_be k (x / 256) (x % 256 ∷ r) (omega arith), get_or_at b (x % 256) r 0 k (length_be k (x / 256))) (omega arith))

pub bytes_drop : (k : ℕ) (s : List ℕ) → Bytes s → Bytes (drop k s)
unfolding Bytes
bytes_drop k s h i = rw (get_or-drop k s i 0) (h (k + i))

pub num_fits : (k : ℕ) (s : List ℕ) → Bytes s → num k s < 256 ^ k
unfolding num Bytes
num_fits zero s h = omega arith
num_fits (suc k) s h = rw pow-suc (omega (arith, num_fits k s h, h k))

-- bytes are those of their number
pub be_num : (k : ℕ) (s : List ℕ) → k ≤ length s → Bytes s → s ≡ be k (num k s) ++ drop k s
unfolding num be Bytes
be_num zero s l h = refl
be_num (suc k) s l h =
    let b : ℕ = get_or s k 0 in
    let byte : b < 256 = h k in
    let high : (num k s * 256 + b) / 256 ≡ num k s = omega arith in
    let low : (num k s * 256 + b) % 256 ≡ b = omega arith in
    be_num k s (omega arith) h
    ∙ rw (drop-cons s k 0 (omega arith), high, low) (sym (append_assoc (be k (num k s)) (b ∷ []) (drop (suc k) s)))

-- ---- splices

pub length_splice : (s : List ℕ) (i : ℕ) (v : List ℕ) → i + length v ≤ length s → length (splice s i v) ≡ length s
unfolding splice
length_splice s i v h =
    let in_s : i ≤ length s = omega arith in
    simp (length-append, length-take-le, length-drop) (omega arith)

pub splice_none : (s : List ℕ) (i : ℕ) → i ≤ length s → splice s i [] ≡ s
unfolding splice
splice_none s i h = rw (add-zero i) (take-append-drop i s)

-- one store, also in front of a run
pub splice_one : (s : List ℕ) (i a : ℕ) → i < length s → set s i a ≡ splice s i (a ∷ [])
unfolding splice
splice_one s i a h = set_split s i a h ∙ rw add-one refl

pub splice_before : (s : List ℕ) (i a : ℕ) (v : List ℕ) → i + 1 + length v ≤ length s → set (splice s (i + 1) v) i a ≡ splice s i (a ∷ v)
unfolding splice
splice_before s i a v h =
    let rest : List ℕ = v ++ drop (suc i + length v) s in
    let same : i + suc (length v) ≡ suc i + length v = omega arith in
    rw (add-one i, take-suc s i 0 (omega arith), append_assoc (take i s) (get_or s i 0 ∷ []) rest)
    (set_at (take i s) (get_or s i 0) rest a i (length-take-le i s (omega arith)) ∙ rw same refl)

-- a run, and then the run in front of it
pub splice_front : (s : List ℕ) (i j : ℕ) (w v : List ℕ) → j ≡ i + length w → j + length v ≤ length s → splice (splice s j v) i w ≡ splice s i (w ++ v)
unfolding splice
splice_front s i j w v e h =
    let front : take i (take j s ++ (v ++ drop (j + length v) s)) ≡ take i s =
    take-append-le i (take j s) (v ++ drop (j + length v) s) (rw (length-take-le j s (omega arith)) (omega arith)) ∙ take-take i j s (omega arith) in
    let rest : drop (i + length w) (take j s ++ (v ++ drop (j + length v) s)) ≡ v ++ drop (j + length v) s =
    rw (← e) (drop_at (take j s) (v ++ drop (j + length v) s) j (length-take-le j s (omega arith))) in
    let lengths : j + length v ≡ i + length (w ++ v) = omega (arith, length-append w v) in
    rw (front, rest, lengths, append_assoc w v (drop (i + length (w ++ v)) s))

-- a run, and then the run after it
pub splice_next : (s : List ℕ) (i : ℕ) (v : List ℕ) (j : ℕ) (w : List ℕ) → j ≡ i + length v → j + length w ≤ length s
    → splice (splice s i v) j w ≡ splice s i (v ++ w)
unfolding splice
splice_next s i v j w e h =
    let front : length (take i s ++ v) ≡ j = simp length-append (rw (length-take-le i s (omega arith)) (sym e)) in
    let rest : List ℕ = drop (i + length v) s in
    let whole : take i s ++ (v ++ rest) ≡ (take i s ++ v) ++ rest = sym (append_assoc (take i s) v rest) in
    let lengths : i + length v + length w ≡ i + length (v ++ w) = omega (arith, length-append v w) in
    let tail : drop (j + length w) ((take i s ++ v) ++ rest) ≡ drop (i + length (v ++ w)) s =
    sym (drop-drop (length w) j ((take i s ++ v) ++ rest))
    ∙ ap (drop (length w)) (drop_at (take i s ++ v) rest j front)
    ∙ drop-drop (length w) (i + length v) s
    ∙ ap (λ (k : ℕ). drop k s) lengths in
    rw whole (rw (take_at (take i s ++ v) rest j front, tail) (simp append_assoc))

-- the stores of a number's bytes, one by one: y is what stands before the last of the bytes of x
pub be_next : (s r : List ℕ) (i k j x y : ℕ) → r ≡ splice s i (be k y) → y ≡ x / 256 → j ≡ i + k → j < length s → set r j (x % 256) ≡ splice s i (be (suc k) x)
unfolding be
be_next s r i k j x y is high at h =
    let size : length (be k y) ≡ k = length_be k y in
    let in_r : j < length (splice s i (be k y)) = rw (length_splice s i (be k y) (omega arith)) h in
    rw is (splice_one (splice s i (be k y)) j (x % 256) in_r ∙ splice_next s i (be k y) j (x % 256 ∷ []) (omega arith) (omega arith) ∙ rw high)

-- what is behind a run
pub drop_splice : (s : List ℕ) (i : ℕ) (v : List ℕ) (j : ℕ) → i ≤ length s → i + length v ≤ j → drop j (splice s i v) ≡ drop j s
unfolding splice
drop_splice s i v j l h =
    let k : ℕ = j - (i + length v) in
    let front : length (take i s ++ v) ≡ i + length v = length-append (take i s) v ∙ rw (length-take-le i s l) in
    let at : i + length v + k ≡ j = omega arith in
    rw (← at, ← append_assoc (take i s) v (drop (i + length v) s), ← drop-drop k (i + length v) ((take i s ++ v) ++ drop (i + length v) s))
    (rw (drop_at (take i s ++ v) (drop (i + length v) s) (i + length v) front) (drop-drop k (i + length v) s))

-- a run is read back
pub take_splice : (s : List ℕ) (i : ℕ) (v : List ℕ) (k : ℕ) → i ≤ length s → length v ≡ k → take k (drop i (splice s i v)) ≡ v
unfolding splice
take_splice s i v k l e = rw (drop_at (take i s) (v ++ drop (i + length v) s) i (length-take-le i s l)) (take_at v (drop (i + length v) s) k e)

-- a run, and then one that covers it
pub splice_cover : (s : List ℕ) (i : ℕ) (v : List ℕ) (j : ℕ) (w : List ℕ) → j ≤ i → i ≤ length s → i + length v ≤ j + length w → splice (splice s i v) j w ≡ splice s j w
unfolding splice
splice_cover s i v j w h l c =
    let front : take j (take i s ++ (v ++ drop (i + length v) s)) ≡ take j s =
    take-append-le j (take i s) (v ++ drop (i + length v) s) (rw (length-take-le i s l) h) ∙ take-take j i s h in
    rw (front, drop_splice s i v (j + length w) l c)

pub splice_over : (s : List ℕ) (i : ℕ) (v w : List ℕ) → length v ≤ length w → i ≤ length s → splice (splice s i v) i w ≡ splice s i w
splice_over s i v w h l = splice_cover s i v i w (omega arith) l (omega arith)

-- a run in its own place
pub splice_same : (s : List ℕ) (i k : ℕ) → i + k ≤ length s → s ≡ splice s i (take k (drop i s))
unfolding splice
splice_same s i k h =
    let size : length (take k (drop i s)) ≡ k = length-take-le k (drop i s) (rw (length-drop i s) (omega arith)) in
    sym (take-append-drop i s) ∙ ap (λ (t : List ℕ). take i s ++ t) (sym (take-append-drop k (drop i s)) ∙ rw (size, drop-drop k i s) refl)
