-- Lines and their lengths.
-- Assumes nothing.
use Rattle.std.specs.Prelude.{◌≡◌, ◌++◌, ℕ, ◌+◌, length}
use Rattle.std.proofs.Common.{ap, ◌∙◌, length-append}
use Rattle.text.specs.Text.{ascii, decimal}
use Rattle.hit_object_lines.specs.Lines.{circle, hold, y_part, circle_part, hold_part, end_part, head_text, line_text}

pub length_head : (x s : ℕ) → length (head_text x s) ≡ length (decimal x) + 5 + length (decimal s)
unfolding head_text y_part ascii
length_head x s = length-append (decimal x ++ y_part) (decimal s) ∙ ap (λ (k : ℕ). k + length (decimal s)) (length-append (decimal x) y_part)

pub length_circle : (x s : ℕ) → length (line_text (circle x s)) ≡ length (head_text x s) + 14
unfolding line_text circle_part ascii
length_circle x s = length-append (head_text x s) circle_part

pub length_hold : (x s e : ℕ) → length (line_text (hold x s e)) ≡ length (head_text x s) + 7 + length (decimal e) + 10
unfolding line_text hold_part end_part ascii
length_hold x s e =
    length-append (head_text x s ++ hold_part ++ decimal e) end_part
    ∙ ap (λ (k : ℕ). k + 10) (length-append (head_text x s ++ hold_part) (decimal e) ∙ ap (λ (k : ℕ). k + length (decimal e)) (length-append (head_text x s) hold_part))
