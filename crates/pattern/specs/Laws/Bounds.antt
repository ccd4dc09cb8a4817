-- Where a drawn column and a drawn count of notes lie. Assumes nothing.
use Rattle.std.specs.Prelude.{◌≡◌, ℕ, ◌≤◌, ◌<◌, Bool, true, false, Float, if◌then◌else◌}
use Rattle.std.proofs.Common.{arith}
use Rattle.std.specs.Float.{binary64}
use Rattle.std.specs.Float.Ieee.{sub, le}
use Rattle.rules.specs.Rule.{◌>>=◌}
use Rattle.random.specs.Play.{found, on}
use Rattle.random.specs.declared.Draws.{Draws}
use Rattle.random.specs.Laws.Range.{between_lt}
use Rattle.random.specs.Laws.On.{gives}
use Rattle.mania.specs.Steps.{double}
use Rattle.mania.specs.PatternGenerator.{note_count, get_random_note_count, get_random_column}

pub drawn_lt : (lower upper : ℕ) → lower < upper → (d : Draws) (c : ℕ) (e : Draws) → on (get_random_column lower upper) d ≡ found c e → c < upper
unfolding get_random_column ◌>>=◌
drawn_lt lower upper l d c e f = gives (λ c. c < upper) (get_random_column lower upper) (λ v h. between_lt h l) d c e f

pick : (b : Bool) (x y : ℕ) → x ≤ 6 → y ≤ 6 → (if b then x else y) ≤ 6
pick true x y h g = h
pick false x y h g = g

pub note_count_le : (p2 p3 p4 p5 p6 val : Float) → note_count p2 p3 p4 p5 p6 val ≤ 6
unfolding note_count
note_count_le p2 p3 p4 p5 p6 val =
    pick (reached p6) 6 _ (omega arith)
    (pick (reached p5) 5 _ (omega arith)
    (pick (reached p4) 4 _ (omega arith) (pick (reached p3) 3 _ (omega arith) (pick (reached p2) 2 1 (omega arith) (omega arith)))))
  where
    reached : Float → Bool
    reached p = le (sub binary64 (double 1 1) p) val

pub count_le : (p2 p3 p4 p5 p6 : Float) (d : Draws) (n : ℕ) (e : Draws) → on (get_random_note_count p2 p3 p4 p5 p6) d ≡ found n e → n ≤ 6
unfolding get_random_note_count ◌>>=◌
count_le p2 p3 p4 p5 p6 d n e f = gives (λ n. n ≤ 6) (get_random_note_count p2 p3 p4 p5 p6) (λ v h. note_count_le p2 p3 p4 p5 p6 _) d n e f
