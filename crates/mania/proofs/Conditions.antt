-- The conditions of an object's refusals. Assumes nothing.
use mathlib.Core.Path.{◌≡◌, refl, sym, ap, ◌∙◌, subst}
use mathlib.Core.Logic.{◌⊎◌, inl, inr, ⊎_elim}
use Prim.Native.Nat.{ℕ, zero, suc, ◌+◌, ◌-◌, ◌*◌, ◌/◌, ◌%◌, ◌^◌, ◌≤◌, ◌<◌}
use native.Mathlib.Nat.{sub-zero, eq-zero-or-pos}
use native.Mathlib.Omega.{arith}
use mathlib.Core.Bool.{Bool, true, false, ◌||◌}
use lib.Dec.{eqb}
use lib.Count.{ones, ones_in, ones-le}
use lib.Ieee.{Float}
use borrow.Author.Tests.{eqb-true, eqb-false, lt-ltb}
use Rattle.rules.specs.Rule.{Outcome, ended, spent, run}
use Rattle.rules.specs.Rule as Rule
use Rattle.rules.specs.Refusal.{Refusal, late_end, no_column, off_deck, too_short, number, spent_number, long_search}
use Rattle.random.specs.Generator.{values}
use Rattle.random.specs.Play.{Answer, found, refused, on, play}
use Rattle.random.specs.declared.Random.{Random}
use Rattle.random.specs.Laws.Play.{placed, play_run}
use Rattle.random.specs.declared.Draws.{Draws}
use Rattle.random.specs.Laws.On.{gives}
use Rattle.model.specs.declared.Object.{Object}
use Rattle.model.specs.declared.Kind.{Kind}
use Rattle.model.specs.declared.Kind.TheVariants.{Circle, Slider, Spinner, Hold}
use Rattle.mania.specs.declared.Facts.{Facts}
use Rattle.mania.specs.declared.PrevValues.{PrevValues}
use Rattle.mania.specs.Made.{Made}
use Rattle.mania.specs.Pattern.{free, any_free}
use Rattle.mania.specs.PatternGenerator.{random_start}
use Rattle.mania.specs.HitObject
use Rattle.mania.specs.PathObject
use Rattle.mania.specs.EndTimeObject
use Rattle.mania.specs.Object.{by_kind, object}
use Rattle.mania.specs.Refusals.{Late, Blocked, Below}
use Rattle.mania.proofs.Masks.{bit, taken_bit}
use Rattle.mania.proofs.Makes as Makes
use Rattle.mania.proofs.Makes.{Makes, any}
use Rattle.mania.proofs.Meets.{Meets, both, makes, refused_meets}
use Rattle.mania.proofs.Frees.{frees, some_free, room, next_bits}
use Rattle.mania.proofs.Searching.{never}
use Rattle.mania.proofs.CircleDeck.{circle_makes}
use Rattle.mania.proofs.SliderDeck.{slider_makes}
use Rattle.mania.proofs.CircleEnds.{start_of, circle_ends}
use Rattle.mania.proofs.SliderEnds.{slider_ends, end_ends}
use Rattle.mania.proofs.SliderEnds as Searches

-- ---- a previous pattern that leaves no column

pub none_free : (mask c n : ℕ) → any_free mask c n ≡ false → (e : ℕ) → c ≤ e → e < c + n → bit mask e ≡ 1
unfolding any_free
none_free mask c zero h e l m = absurd (none l m)
  where
    none : c ≤ e → e < c + 0 → ⊥
    none l m = omega arith
none_free mask c (suc n) h e l m = go (free mask c) refl h (none_free mask (suc c) n)
  where
    go : (b : Bool) → free mask c ≡ b → (b || any_free mask (suc c) n) ≡ false → (any_free mask (suc c) n ≡ false → (e : ℕ) → suc c ≤ e → e < suc c + n → bit mask e ≡ 1) → bit mask e ≡ 1
    go true f k r = absurd (never refl k)
    go false f k r = pick (eqb c e) refl
      where
        pick : (b : Bool) → eqb c e ≡ b → bit mask e ≡ 1
        pick true i = subst (λ (x : ℕ). bit mask x ≡ 1) (eqb-true c e i) (taken_bit mask c f)
        pick false i = let z = eqb-false c e i in r k e (omega arith) (omega arith)

ones_255 : ones 255 ≡ 8
unfolding ones ones_in
ones_255 = refl

-- a number of eight digits whose upper seven are set
seven : (m a b c d e f g h : ℕ) → m < 256 → m / 2 ≡ a → a ≡ 2 * b + 1 → b ≡ 2 * c + 1 → c ≡ 2 * d + 1 → d ≡ 2 * e + 1 → e ≡ 2 * f + 1 → f ≡ 2 * g + 1 → g ≡ 2 * h + 1
    → (m ≡ 255 → ⊥) → m ≡ 254
seven m a b c d e f g h l p1 p2 p3 p4 p5 p6 p7 p8 n = omega arith

digit : (mask e : ℕ) → bit mask e ≡ 1 → mask / 2 ^ e ≡ 2 * (mask / 2 ^ suc e) + 1
digit mask e h = half (mask / 2 ^ e) (mask / 2 ^ suc e) h (next_bits mask e)
  where
    half : (n k : ℕ) → n % 2 ≡ 1 → n / 2 ≡ k → n ≡ 2 * k + 1
    half n k h e = omega arith

module _ (mask columns : ℕ) (small : mask < 2 ^ columns) (b : Searches.Blocked mask columns) where
  blocked_8 : columns ≡ 8
  blocked_8 = go (eqb columns 8) refl
    where
      go : (t : Bool) → eqb columns 8 ≡ t → columns ≡ 8
      go true e = eqb-true columns 8 e
      go false e =
          let low = (start_of columns).1 (eqb-false columns 8 e) in
          absurd (b.1 (full (frees mask 0 columns) (room mask 0 columns) (ones-le columns mask small) (λ h. never (some_free mask 0 columns h) (none b.0 low))))
        where
          none : any_free mask (random_start columns) (columns - random_start columns) ≡ false → random_start columns ≡ 0 → any_free mask 0 columns ≡ false
          none h e = subst (λ (n : ℕ). any_free mask 0 n ≡ false) (sub-zero columns) (subst (λ (l : ℕ). any_free mask l (columns - l) ≡ false) e h)

          full : (k : ℕ) → columns - ones mask ≤ k → ones mask ≤ columns → (0 < k → ⊥) → ones mask ≡ columns
          full k h l n = ⊎_elim (λ (z : k ≡ 0). omega arith) (λ p. absurd (n p)) (eq-zero-or-pos k)

  mask_254 : mask ≡ 254
  mask_254 =
      let e = blocked_8 in
      let lt : mask < 256 = subst (λ (n : ℕ). mask < 2 ^ n) e small in
      let low : random_start columns ≡ 1 = (start_of columns).0 e in
      let none : any_free mask 1 7 ≡ false = subst (λ (l : ℕ). any_free mask l (8 - l) ≡ false) low (subst (λ (n : ℕ). any_free mask (random_start columns) (n - random_start columns) ≡ false) e b.0) in
      let is : (e : ℕ) → 1 ≤ e → e < 8 → bit mask e ≡ 1 = none_free mask 1 7 none in
      let at : ℕ → ℕ = λ e. mask / 2 ^ e in
      seven mask (at 1) (at 2) (at 3) (at 4) (at 5) (at 6) (at 7) (at 8) lt refl
      (digit mask 1 (is 1 (omega arith) (omega arith))) (digit mask 2 (is 2 (omega arith) (omega arith))) (digit mask 3 (is 3 (omega arith) (omega arith)))
      (digit mask 4 (is 4 (omega arith) (omega arith))) (digit mask 5 (is 5 (omega arith) (omega arith))) (digit mask 6 (is 6 (omega arith) (omega arith)))
      (digit mask 7 (is 7 (omega arith) (omega arith)))
      (λ z. b.1 (ap ones z ∙ ones_255 ∙ sym e))

-- ---- an object

-- by its kind: what is true where it is refused
abbrev pub Condition : Facts → PrevValues → ℕ → Object → Kind → Refusal → Type 0
Condition f v columns o k late_end = Late f o k
Condition f v columns o k no_column = Blocked v columns k
Condition f v columns o k off_deck = Below f v columns o k
Condition f v columns o k too_short = ⊥
Condition f v columns o k long_search = Unit {0}

-- what the next object meets lies on the deck
abbrev pub Left : ℕ → Made → Type 0
Left columns m = (m.last < columns) × (m.mask < 2 ^ columns)

abbrev kind : {A : Type 0} → Answer ℕ A → ℕ
kind (found a e) = 0
kind (refused x e) = 1

abbrev after : {A : Type 0} → Answer ℕ A → Draws
after (found a e) = e
after (refused x e) = e

abbrev said : {A : Type 0} → Answer ℕ A → ℕ
said (found a e) = 0
said (refused x e) = x

-- a slider that ends too late is refused before any draw
late_kind : (f : Facts) (v : PrevValues) (columns : ℕ) (o : Object) (k : Kind) → Late f o k → (d : Draws) → on (by_kind f v columns o k) d ≡ refused 8 d
unfolding Late by_kind PathObject.new PathObject.generate play
late_kind f v columns o Circle l d = absurd l
late_kind f v columns o (Slider repeats distance sound) l d = rw (lt-ltb PathObject.latest (PathObject.end_time f o (repeats + 1) distance) l)
late_kind f v columns o (Spinner duration) l d = absurd l
late_kind f v columns o (Hold duration) l d = absurd l

pub late_refuses : (f : Facts) (v : PrevValues) (columns : ℕ) (o : Object) → Late f o o.kind → (d : Draws) → on (object f v columns o) d ≡ refused 8 d
unfolding object
late_refuses f v columns o l d = late_kind f v columns o o.kind l d

module _ (f : Facts) (v : PrevValues) (columns : ℕ) (o : Object) (some : 1 ≤ columns) (deck : columns ≤ 9) (mask : v.mask < 2 ^ columns) (last : v.last < columns) where
  end_left : (duration : Float) → Makes (Left columns) (EndTimeObject.generate v columns o duration)
  unfolding EndTimeObject.generate
  end_left duration = Makes.seq any (λ c u. Makes.seq any (λ p u. Makes.giving (last, mask)))

  kind_ends : (k : Kind) → Meets (Condition f v columns o k) (Left columns) (by_kind f v columns o k)
  unfolding by_kind Late Blocked Below HitObject.new PathObject.new HitObject.alone
  kind_ends Circle =
      both
      (circle_ends (Condition f v columns o Circle) tt (HitObject.new f v columns o) some deck last (λ e l a s. (e, l, eqb-true (ones v.mask) 1 a, s)))
      (Makes.less (circle_makes (HitObject.new f v columns o) some) (λ m h. (h.0, h.1)))
  kind_ends (Slider repeats distance sound) =
      both
      (slider_ends (Condition f v columns o (Slider repeats distance sound)) tt (PathObject.new f v columns o repeats distance sound) some mask
      (λ b. (blocked_8 v.mask columns mask b, mask_254 v.mask columns mask b)) (λ l. l))
      (slider_makes (PathObject.new f v columns o repeats distance sound) some)
  kind_ends (Spinner duration) =
      both (end_ends (Condition f v columns o (Spinner duration)) tt v columns o duration some (λ b. (blocked_8 v.mask columns mask b, mask_254 v.mask columns mask b))) (end_left duration)
  kind_ends (Hold duration) =
      both (end_ends (Condition f v columns o (Hold duration)) tt v columns o duration some (λ b. (blocked_8 v.mask columns mask b, mask_254 v.mask columns mask b))) (end_left duration)

  pub object_ends : Meets (Condition f v columns o o.kind) (Left columns) (object f v columns o)
  unfolding object
  object_ends = kind_ends o.kind

  -- what the next object meets, where the object's rule was played
  pub object_left : (d : Draws) (m : Made) (e : Draws) → on (object f v columns o) d ≡ found m e → Left columns m
  object_left d m e h = gives (Left columns) (object f v columns o) (makes object_ends).made d m e h

  -- a number that an object's rule is refused by, and its condition; else it is 12
  refused_by_law : (x : Outcome (Unit {0}) Refusal Made) (l g : ℕ) (st : Random) → run (object f v columns o) (values l st) ≡ x → (k : ℕ) (e : Draws) → placed (λ p. spent_number) number l g st x ≡ refused k e
      → (k ≡ 12) ⊎ ((r : Refusal) × (number r ≡ k) × Condition f v columns o o.kind r)
  unfolding placed
  refused_by_law (ended m n) l g st u k e h = let z : ◌≡◌ {A = ℕ} 0 1 = ap kind h in absurd (omega arith)
  refused_by_law (Rule.refused r n) l g st u k e h = inr (r, ap said h, refused_meets (object f v columns o) object_ends l st r n u)
  refused_by_law (spent p n) l g st u k e h = inl (sym (ap said h))

  object_refused : (d : Draws) (k : ℕ) (e : Draws) → on (object f v columns o) d ≡ refused k e → (k ≡ 12) ⊎ ((r : Refusal) × (number r ≡ k) × Condition f v columns o o.kind r)
  object_refused d k e h =
      refused_by_law (run (object f v columns o) (values d.tally.left d.random)) d.tally.left _ d.random refl k e
      (sym (play_run (λ p. spent_number) number (object f v columns o) d.tally.left d.tally.longest d.random) ∙ h)

  -- it is not refused by 11
  pub object_not_11 : (d e : Draws) → on (object f v columns o) d ≡ refused 11 e → ⊥
  object_not_11 d e h = ⊎_elim (λ (z : 11 ≡ 12). omega arith) (λ k. short k.0 k.1 k.2) (object_refused d 11 e h)
    where
      short : (r : Refusal) → number r ≡ 11 → Condition f v columns o o.kind r → ⊥
      short late_end e c = omega arith
      short no_column e c = omega arith
      short off_deck e c = omega arith
      short too_short e c = c
      short long_search e c = omega arith

  -- by 8 where a slider ends too late, and then without a draw
  object_late : (d e : Draws) → on (object f v columns o) d ≡ refused 8 e → Late f o o.kind
  object_late d e h = ⊎_elim (λ (z : 8 ≡ 12). absurd (omega arith)) (λ k. late k.0 k.1 k.2) (object_refused d 8 e h)
    where
      late : (r : Refusal) → number r ≡ 8 → Condition f v columns o o.kind r → Late f o o.kind
      late late_end e c = c
      late no_column e c = absurd (omega arith)
      late off_deck e c = absurd (omega arith)
      late too_short e c = absurd c
      late long_search e c = absurd (omega arith)

  late_undrawn : (k : Kind) → Late f o k → (d e : Draws) → on (by_kind f v columns o k) d ≡ refused 8 e → d ≡ e
  late_undrawn k l d e h = ap after (sym (late_kind f v columns o k l d) ∙ h)

  pub undrawn_8 : (d e : Draws) → on (object f v columns o) d ≡ refused 8 e → d ≡ e
  unfolding object
  undrawn_8 d e h = late_undrawn o.kind (object_late d e h) d e h
