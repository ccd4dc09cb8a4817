-- The claim on allowances, of what is got under each. Assumes nothing.
use Rattle.std.specs.Prelude.{◌≡◌, ℕ, ◌≤◌, ◌<◌}
use Rattle.rules.specs.Rule.{Outcome, spent, taken, Done}

-- What ended other than spent is the same under every allowance of as many draws as it made or more, and spent, with all drawn,
-- under every smaller one. What ended spent had drawn all.
pub record Lawful {P R A : Type 0} (under : ℕ → Outcome P R A) : Type 0 where
  pub same : (a b : ℕ) → Done (under a) → taken (under a) ≤ b → under b ≡ under a
  pub fewer : (a b : ℕ) → Done (under a) → b < taken (under a) → (p : P) × (under b ≡ spent p b)
  pub whole : (a : ℕ) (p : P) (n : ℕ) → under a ≡ spent p n → n ≡ a
