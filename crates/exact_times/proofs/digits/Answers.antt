-- `exact_times::digits` meets its contract.
-- Assumes nothing.
use mathlib.Core.Path.{sym}
use Rattle.exact_times.specs.Laws.Sums.{small_digits, large_digits}
use Rattle.exact_times.proofs.digits.Goals as goal

pub returns-then-b-lt-LEAD_BIT : goal.returns-then-b-lt-LEAD_BIT
returns-then-b-lt-LEAD_BIT c = sym (small_digits _ c.if-b-lt-LEAD_BIT.true)

pub returns : goal.returns
returns c = sym (large_digits _ c.if-b-lt-LEAD_BIT.false)
