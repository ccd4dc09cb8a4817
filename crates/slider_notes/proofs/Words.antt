-- A note written as a word, and what the loops have in common. Assumes nothing.
use mathlib.Core.Path.{◌≡◌, ap, ◌∙◌}
use Prim.Native.Nat.{ℕ, suc, ◌+◌, ◌-◌, ◌*◌, ◌/◌, ◌%◌, ◌^◌, ◌≤◌, ◌<◌}
use native.Mathlib.Nat.{suc-mul}
use native.Mathlib.Omega.{arith}
use lib.ListN.{length}
use Rattle.mania.specs.declared.SliderNote.{SliderNote}
use Rattle.random.specs.Play.{found, on}
use Rattle.random.specs.declared.Draws.{Draws}
use Rattle.mania.specs.declared.PathObjectPatternGenerator.{PathObjectPatternGenerator}
use Rattle.mania.specs.Pattern.{Pattern, put}
use Rattle.mania.specs.PathObject.{add_slider_note}
use Rattle.pattern.specs.Laws.Adds as Adds
use Rattle.slider_notes.specs.Words.{slider_note, of_word}

-- a word is read back
pub word_back : (c s e : ℕ) → c < 16 → s < 2 ^ 26 → e < 2 ^ 26 → of_word (e * 2 ^ 30 + s * 2 ^ 4 + c) ≡ slider_note c s e
unfolding of_word
word_back c s e hc hs he =
    let w = e * 2 ^ 30 + s * 2 ^ 4 + c in
    let a : w % 2 ^ 4 ≡ c = omega arith in
    let q : w / 2 ^ 4 ≡ e * 2 ^ 26 + s = omega arith in
    let b : w / 2 ^ 4 % 2 ^ 26 ≡ s = rw q (omega arith) in
    let r : w / 2 ^ 30 ≡ e = omega arith in
    let x : w / 2 ^ 30 % 2 ^ 26 ≡ e = rw r (omega arith) in
    rw (a, b, x)

-- ---- the steps that the loops share

-- before the first turn all are to come
pub all : (n : ℕ) → n - 0 ≡ n
all n = omega arith

-- a turn more is one turn less to come
pub turn : (n k : ℕ) → k < n → n - k ≡ suc (n - (k + 1))
turn n k h = omega arith

-- a time that is bounded after all turns
pub ahead : (left m time length bound : ℕ) → left ≡ suc m → time + left * length < bound → time + length + m * length < bound
ahead left m time length bound e k =
    let l : left * length ≡ length + m * length = ap (λ (n : ℕ). n * length) e ∙ suc-mul m length ∙ omega arith in
    omega arith

-- room for what is left, after one note and after one or two
pub less_one : (p q left m most : ℕ) → q ≡ p + 1 → left ≡ suc m → p + left ≤ most → q + m ≤ most
less_one p q left m most e h r = omega arith

pub less_two : (p q r left m most : ℕ) → q ≡ p + 1 → r ≤ q + 1 → left ≡ suc m → p + 2 * left ≤ most → r + 2 * m ≤ most
less_two p q r left m most e f h k = omega arith

pub less_row : (p q here left m most : ℕ) → q ≤ p + here → here ≤ 6 → left ≡ suc m → p + 6 * left ≤ most → q + 6 * m ≤ most
less_row p q here left m most e f h k = omega arith

-- a note on the deck is added without a draw
pub add_on : (g : PathObjectPatternGenerator) (c s e : ℕ) (p : Pattern SliderNote) (d : Draws) → c < g.columns → on (add_slider_note g c s e p) d ≡ found (put (slider_note c s e) c p) d
unfolding add_slider_note
add_on g c s e p d h = Adds.add_on g.columns _ c p d h
