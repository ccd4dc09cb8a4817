-- Parts of contracts. Assumes nothing.
use Rattle.std.specs.Prelude.{ℕ, zero, suc, ◌≤◌, Result, Ok, Err}
use Rattle.rules.specs.declared.Refusal.{Refusal}
use Rattle.rules.specs.Coded.{code}
use Rattle.record.specs.declared.objects.Scanned.{Scanned}

-- an answer, with its refusal as a number
abbrev pub coded : {A : Type 0} → Result A Refusal → Result A ℕ
coded (Ok a) = Ok a
coded (Err r) = Err (code r)

-- 1 for a slider and a spinner, by the kind's number
abbrev pub is_long : ℕ → ℕ
is_long zero = 0
is_long (suc zero) = 1
is_long (suc (suc zero)) = 1
is_long (suc (suc (suc k))) = 0

-- the objects end at most at bit n
abbrev pub EndBy : ℕ → Result Scanned Refusal → Type 0
EndBy n (Ok scanned) = scanned.end ≤ n
EndBy n (Err r) = 0 ≤ n
