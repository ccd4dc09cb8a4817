-- One word more of a buffer, in the lists of the definition. Assumes nothing.
use Rattle.std.specs.Prelude.{if◌then◌else◌}
use mathlib.Core.Path.{◌≡◌, refl, sym, ap, ◌∙◌}
use Prim.Native.Nat.{ℕ, suc, ◌+◌, ◌-◌, ◌^◌, ◌≤◌, ◌<◌}
use native.Mathlib.Numerals.{add-one}
use native.Mathlib.Omega.{arith}
use mathlib.Core.Bool.{Bool, true, false}
use mathlib.Core.List.{List, [], ◌∷◌, ◌++◌, map, append_assoc, append-nil}
use lib.Bits.{bit_or}
use lib.Dec.{eqb}
use borrow.Author.Tests.{eq-eqb, ne_eqb}
use lib.ListN.{length, set, take, drop, get_or, length-set, length-map}
use lib.Seq.{drop-cons, length-take-le, take-length}
use Rattle.mania.specs.declared.SliderNote.{SliderNote}
use Rattle.mania.specs.Pattern.{Pattern, put, empty}
use Rattle.mania.specs.PathObject.{others, ending}
use Rattle.pattern.specs.Answers.{column_of, pattern}
use Rattle.pattern.specs.Laws.Words.{one_more}
use Rattle.slider_notes.specs.Words.{of_word, Put}
use Rattle.pattern.specs.declared.Pattern as Lent
use Rattle.slider_notes.specs.Order.{endings, Others, Endings, walk_order, Ordered}

-- the notes of the words from i up to n
abbrev pub rest : List ℕ → ℕ → ℕ → List SliderNote
rest src n i = map of_word (take (n - i) (drop i src))

pub rest_is : (src : List ℕ) (n i : ℕ) → i < n → n ≤ length src → rest src n i ≡ of_word (get_or src i 0) ∷ rest src n (i + 1)
rest_is src n i h k =
    let m : n - i ≡ suc (n - (i + 1)) = omega arith in
    let l : i < length src = omega arith in
    rw (m, drop-cons src i 0 l, add-one i)

pub rest_end : (src : List ℕ) (n i : ℕ) → n ≤ i → rest src n i ≡ []
rest_end src n i h = let m : n - i ≡ 0 = omega arith in rw m

pub rest_all : (src : List ℕ) (n : ℕ) → rest src n 0 ≡ map of_word (take n src)
rest_all src n = let m : n - 0 ≡ n = omega arith in rw m

-- ---- those that do not end at a time

pub skip : (end : ℕ) (b : SliderNote) (bs : List SliderNote) → b.end ≡ end → others end (b ∷ bs) ≡ others end bs
unfolding others
skip end b bs e = rw (eq-eqb _ _ e)

pub keep : (end : ℕ) (b : SliderNote) (bs : List SliderNote) → (b.end ≡ end → ⊥) → others end (b ∷ bs) ≡ b ∷ others end bs
unfolding others
keep end b bs e = rw (ne_eqb _ _ e)

pub others_end : (end : ℕ) → others end [] ≡ []
unfolding others
others_end end = refl

-- ---- those that do

pub ending_put : (end : ℕ) (b : SliderNote) (bs : List SliderNote) (p : Pattern SliderNote) → b.end ≡ end → ending end (b ∷ bs) p ≡ ending end bs (put b b.column p)
unfolding ending
ending_put end b bs p e = rw (eq-eqb _ _ e)

pub ending_skip : (end : ℕ) (b : SliderNote) (bs : List SliderNote) (p : Pattern SliderNote) → (b.end ≡ end → ⊥) → ending end (b ∷ bs) p ≡ ending end bs p
unfolding ending
ending_skip end b bs p e = rw (ne_eqb _ _ e)

pub ending_end : (end : ℕ) (p : Pattern SliderNote) → ending end [] p ≡ p
unfolding ending
ending_end end p = refl

-- how many do

pub endings_more : (end : ℕ) (b : SliderNote) (bs : List SliderNote) → b.end ≡ end → endings end (b ∷ bs) ≡ suc (endings end bs)
unfolding endings
endings_more end b bs e = rw (eq-eqb _ _ e)

pub endings_skip : (end : ℕ) (b : SliderNote) (bs : List SliderNote) → (b.end ≡ end → ⊥) → endings end (b ∷ bs) ≡ endings end bs
unfolding endings
endings_skip end b bs e = rw (ne_eqb _ _ e)

pub endings_end : (end : ℕ) → endings end [] ≡ 0
unfolding endings
endings_end end = refl

pub copied : (entry : List ℕ) (p : Lent.Pattern) (w c mask : ℕ) → c ≡ column_of w → p.count < length entry → mask ≡ bit_or p.mask (2 ^ c)
    → Put entry (set entry p.count w) p (of_word w) (record { mask = mask; last = c; count = p.count + 1 })
unfolding pattern put of_word
copied entry p w c mask e room m = record { is = rw (one_more of_word entry p.count w room, m, e); more = refl }

-- ---- at the loops' heads

pub record OthersAt (src : List ℕ) (n end : ℕ) (entry now : List ℕ) (i k : ℕ) : Type 0 where
  pub size : length now ≡ length entry
  pub below : k ≤ i
  pub within : i ≤ n
  pub goes : map of_word (take k now) ++ others end (rest src n i) ≡ others end (map of_word (take n src))
  pub many : k + endings end (map of_word (take n src)) ≡ i + endings end (rest src n i)

pub others_start : (src : List ℕ) (n end : ℕ) (entry : List ℕ) → OthersAt src n end entry entry 0 0
others_start src n end entry = record { size = refl; below = omega arith; within = omega arith; goes = ap (others end) (rest_all src n); many = ap (λ (bs : List SliderNote). 0 + endings end bs) (sym (rest_all src n)) }

module _ (src : List ℕ) (n end : ℕ) (entry now : List ℕ) (i k : ℕ) (a : OthersAt src n end entry now i k) where
  abbrev here : SliderNote
  here = of_word (get_or src i 0)

  pub others_skip : i < n → n ≤ length src → here.end ≡ end → OthersAt src n end entry now (i + 1) k
  others_skip h l e = record {
    size = a.size;
    below = omega (arith, a.below);
    within = omega arith;
    goes = ap (λ (bs : List SliderNote). map of_word (take k now) ++ bs) (sym (ap (others end) (rest_is src n i h l) ∙ skip end here (rest src n (i + 1)) e)) ∙ a.goes;
    many = omega (arith, a.many, ap (endings end) (rest_is src n i h l) ∙ endings_more end here (rest src n (i + 1)) e);
  }

  pub others_keep : i < n → n ≤ length src → n ≤ length entry → (here.end ≡ end → ⊥) → OthersAt src n end entry (set now k (get_or src i 0)) (i + 1) (k + 1)
  others_keep h l m e =
      let room : k < length now = omega (arith, a.below, a.size) in
      record {
        size = length-set now k (get_or src i 0) ∙ a.size;
        below = omega (arith, a.below);
        within = omega arith;
        goes =
            ap (λ (bs : List SliderNote). bs ++ others end (rest src n (i + 1))) (one_more of_word now k (get_or src i 0) room)
            ∙ append_assoc (map of_word (take k now)) (here ∷ []) (others end (rest src n (i + 1)))
            ∙ ap (λ (bs : List SliderNote). map of_word (take k now) ++ bs) (sym (ap (others end) (rest_is src n i h l) ∙ keep end here (rest src n (i + 1)) e))
            ∙ a.goes;
        many = omega (arith, a.many, ap (endings end) (rest_is src n i h l) ∙ endings_skip end here (rest src n (i + 1)) e);
      }

  pub others_done : n ≤ i → Others src n end now k
  others_done h = record {
    is =
        sym (append-nil (map of_word (take k now)))
        ∙ ap (λ (bs : List SliderNote). map of_word (take k now) ++ bs) (sym (ap (others end) (rest_end src n i h) ∙ others_end end))
        ∙ a.goes;
    few = omega (arith, a.below, a.within);
    rest = omega (arith, a.many, a.within, ap (endings end) (rest_end src n i h) ∙ endings_end end);
  }

pub record EndingAt (src : List ℕ) (n end : ℕ) (entry : List ℕ) (before : Lent.Pattern) (now : List ℕ) (p : Lent.Pattern) (i : ℕ) : Type 0 where
  pub size : length now ≡ length entry
  pub many : p.count + endings end (rest src n i) ≡ before.count + endings end (map of_word (take n src))
  pub within : i ≤ n
  pub goes : ending end (rest src n i) (pattern of_word now p) ≡ ending end (map of_word (take n src)) (pattern of_word entry before)

pub ending_start : (src : List ℕ) (n end : ℕ) (entry : List ℕ) (before : Lent.Pattern) → EndingAt src n end entry before entry before 0
ending_start src n end entry before = record {
  size = refl;
  many = ap (λ (bs : List SliderNote). before.count + endings end bs) (rest_all src n);
  within = omega arith;
  goes = ap (λ (bs : List SliderNote). ending end bs (pattern of_word entry before)) (rest_all src n);
}

module _ (src : List ℕ) (n end : ℕ) (entry : List ℕ) (before : Lent.Pattern) (now : List ℕ) (p : Lent.Pattern) (i : ℕ) (a : EndingAt src n end entry before now p i) where
  abbrev this : SliderNote
  this = of_word (get_or src i 0)

  pub ending_more : i < n → n ≤ length src → this.end ≡ end → (after : List ℕ) (q : Lent.Pattern) → Put now after p this q → length after ≡ length now
      → EndingAt src n end entry before after q (i + 1)
  ending_more h l e after q w s = record {
    size = s ∙ a.size;
    many = omega (arith, w.more, a.many, ap (endings end) (rest_is src n i h l) ∙ endings_more end this (rest src n (i + 1)) e);
    within = omega arith;
    goes =
        ap (ending end (rest src n (i + 1))) w.is
        ∙ sym (ap (λ (bs : List SliderNote). ending end bs (pattern of_word now p)) (rest_is src n i h l) ∙ ending_put end this (rest src n (i + 1)) (pattern of_word now p) e)
        ∙ a.goes;
  }

  pub ending_less : i < n → n ≤ length src → (this.end ≡ end → ⊥) → EndingAt src n end entry before now p (i + 1)
  ending_less h l e = record {
    size = a.size;
    many = omega (arith, a.many, ap (endings end) (rest_is src n i h l) ∙ endings_skip end this (rest src n (i + 1)) e);
    within = omega arith;
    goes =
        sym (ap (λ (bs : List SliderNote). ending end bs (pattern of_word now p)) (rest_is src n i h l) ∙ ending_skip end this (rest src n (i + 1)) (pattern of_word now p) e)
        ∙ a.goes;
  }

  -- room for one more
  pub ending_room : i < n → n ≤ length src → this.end ≡ end → before.count + endings end (map of_word (take n src)) ≤ length entry → p.count < length now
  ending_room h l e r = omega (arith, a.many, a.size, ap (endings end) (rest_is src n i h l) ∙ endings_more end this (rest src n (i + 1)) e)

  pub ending_done : n ≤ i → Endings src n end entry now before p
  ending_done h = record {
    is = sym (ap (λ (bs : List SliderNote). ending end bs (pattern of_word now p)) (rest_end src n i h) ∙ ending_end end (pattern of_word now p)) ∙ a.goes;
    many = omega (arith, a.many, ap (endings end) (rest_end src n i h) ∙ endings_end end);
  }

-- ---- the two parts one after the other

abbrev joined : List SliderNote → Pattern SliderNote → Pattern SliderNote
joined pre p = record { mask = p.mask; last = p.last; notes = pre ++ p.notes }

abbrev after : ℕ → List SliderNote → List SliderNote → Pattern SliderNote → Pattern SliderNote
after end bs pre p = record { mask = (ending end bs p).mask; last = (ending end bs p).last; notes = pre ++ (ending end bs p).notes }

pick : (t : Bool) (f h : Pattern SliderNote → Pattern SliderNote) (a b c d : Pattern SliderNote) → f a ≡ h c → f b ≡ h d → f (if t then a else b) ≡ h (if t then c else d)
pick true f h a b c d x y = x
pick false f h a b c d x y = y

-- notes that stand before stay there
prefixed : (end : ℕ) (bs pre : List SliderNote) (p : Pattern SliderNote)
    → ending end bs (record { mask = p.mask; last = p.last; notes = pre ++ p.notes })
    ≡ record { mask = (ending end bs p).mask; last = (ending end bs p).last; notes = pre ++ (ending end bs p).notes }
unfolding ending put
prefixed end [] pre p = refl
prefixed end (b ∷ bs) pre p =
    pick (eqb b.end end) (ending end bs) (after end bs pre) (put b b.column (joined pre p)) (joined pre p) (put b b.column p) p
    (ap (λ (l : List SliderNote). ending end bs (record { mask = bit_or p.mask (2 ^ b.column); last = b.column; notes = l })) (append_assoc pre p.notes (b ∷ [])) ∙ prefixed end bs pre (put b b.column p))
    (prefixed end bs pre p)

module _ (end : ℕ) (src : List ℕ) (p : Lent.Pattern) (k : ℕ) (mid exit : List ℕ) (q : Lent.Pattern) (fit : p.count ≤ length src) where
  abbrev part : List ℕ
  part = take p.count src

  abbrev notes : List SliderNote
  notes = map of_word part

  abbrev last : Pattern SliderNote
  last = ending end notes empty

  abbrev both : Pattern SliderNote
  both = record { mask = last.mask; last = last.last; notes = others end notes ++ last.notes }

  size : length notes ≡ p.count
  size = length-map part of_word ∙ length-take-le p.count src fit

  module _ (o : Others part (length part) end mid k) (e : Endings part (length part) end mid exit (record { mask = 0; last = 0; count = k }) q) where
    both_is : pattern of_word exit q ≡ both
    unfolding pattern empty
    both_is =
        let words = take-length part in
        e.is ∙ ap (λ (l : List ℕ). ending end (map of_word l) (record { mask = 0; last = 0; notes = map of_word (take k mid) })) words
        ∙ ap (λ (l : List SliderNote). ending end notes (record { mask = 0; last = 0; notes = l }))
        (o.is ∙ ap (λ (l : List ℕ). others end (map of_word l)) words ∙ sym (append-nil (others end notes)))
        ∙ prefixed end notes (others end notes) empty

    many : q.count ≡ p.count
    many = omega (arith, e.many, o.rest, length-take-le p.count src fit)

    pub split_more : (p.count ≡ 1 → ⊥) → Ordered end src exit p q
    unfolding walk_order pattern
    split_more n = record { is = both_is ∙ rw (size, ne_eqb _ _ n); same = many }

    pub split_one : p.count ≡ 1 → Ordered end src exit p (record { mask = p.mask; last = p.last; count = q.count })
    unfolding walk_order pattern
    split_one n = record {
      is =
          ap (λ (l : List SliderNote). record { mask = p.mask; last = p.last; notes = l }) (ap (λ (r : Pattern SliderNote). r.notes) both_is)
          ∙ rw (size, eq-eqb _ _ n);
      same = many;
    }
