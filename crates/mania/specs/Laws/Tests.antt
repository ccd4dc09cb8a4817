-- What a conjunction of tests says of each. Assumes nothing.
use Rattle.std.specs.Prelude.{◌≡◌, refl, Bool, true, false, ◌&&◌, T}
use Rattle.std.proofs.Common.{sym, subst}

pub two : (a b : Bool) → (a && b) ≡ true → (a ≡ true) × (b ≡ true)
two true b e = (refl, e)
two false b e = absurd (subst T (sym e) tt)

pub and_l : (a b : Bool) → (a && b) ≡ true → a ≡ true
and_l a b e = (two a b e).0

pub and_r : (a b : Bool) → (a && b) ≡ true → b ≡ true
and_r a b e = (two a b e).1

pub three : (a b c : Bool) → (a && b && c) ≡ true → (a ≡ true) × (b ≡ true) × (c ≡ true)
three a b c e =
    let t = two (a && b) c e in
    let u = two a b t.0 in
    (u.0, u.1, t.1)

pub four : (a b c d : Bool) → (a && b && c && d) ≡ true → (a ≡ true) × (b ≡ true) × (c ≡ true) × (d ≡ true)
four a b c d e =
    let t = two (a && b && c) d e in
    let u = three a b c t.0 in
    (u.0, u.1, u.2, t.1)
