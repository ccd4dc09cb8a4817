-- A table of records of floats, read a row of its fields or one field at a time. Assumes nothing.
use Rattle.std.specs.Prelude.{◌≡◌, refl, ℕ, zero, suc, ◌<◌, List, [], ◌∷◌, map, Float, length, get_or}
use Rattle.std.proofs.Common.{le_of_suc-le-suc, not-suc-le-zero}
use Rattle.std.specs.Float.{nan}

pub entry_at : {A B : Type 0} (f : A → B) (l : List A) (n : ℕ) (d : A) (e : B) → n < length l → get_or (map f l) n e ≡ f (get_or l n d)
entry_at f [] n d e h = absurd (not-suc-le-zero h)
entry_at f (x ∷ l) zero d e h = refl
entry_at f (x ∷ l) (suc n) d e h = entry_at f l n d e (le_of_suc-le-suc h)

pub field_at : {A : Type 0} (f : A → Float) (l : List A) (n : ℕ) (d : A) → n < length l → get_or (map f l) n nan ≡ f (get_or l n d)
field_at f l n d h = entry_at f l n d nan h
