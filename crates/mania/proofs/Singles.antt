-- The claims of the single-object entry. Assumes nothing.
use Rattle.std.specs.Prelude.{if◌then◌else◌}
use mathlib.Core.Path.{◌≡◌, refl, sym, ap, ◌∙◌, subst}
use mathlib.Core.Logic.{◌⊎◌, inl}
use Prim.Native.Nat.{ℕ, ◌-◌, ◌*◌, ◌^◌, ◌≤◌, ◌<◌, max}
use native.Mathlib.Nat.{lt_of_not-le}
use native.Mathlib.Omega.{arith}
use mathlib.Core.Bool.{Bool, true, false, not}
use mathlib.Core.List.{List}
use lib.Arith.{sub-sub_self}
use lib.Dec.{eqb, ltb}
use lib.ListN.{length}
use borrow.Author.Tests.{ltb-true, ltb-false, lt-ltb, eqb-true, eqb-false}
use Rattle.rules.specs.Rule.{Outcome, ended, spent, run, taken, Done, refuse, give}
use Rattle.rules.specs.Rule as Rule
use Rattle.rules.specs.Ledger.{longest}
use Rattle.rules.proofs.Laws.Limited.{refused_full}
use Rattle.rules.specs.Refusal.{Refusal, late_end, no_column, off_deck, too_short, number, spent_number, ObjectRule, long_search}
use Rattle.random.specs.Generator.{values, steps}
use Rattle.random.specs.Play.{Answer, found, refused, on, play, tallied}
use Rattle.random.specs.declared.Random.{Random}
use Rattle.random.specs.declared.Draws.{Draws}
use Rattle.random.specs.Laws.Play.{placed, play_run}
use Rattle.random.specs.Laws.On.{found_bind, refused_bind}
use Rattle.random.specs.Laws.Allowance.{lawful, done_le, found_run}
use Rattle.model.specs.declared.Object.{Object}
use Rattle.mania.specs.declared.Facts.{Facts}
use Rattle.mania.specs.declared.PrevValues.{PrevValues}
use Rattle.mania.specs.declared.Stair.{Stair}
use Rattle.mania.specs.Made.{Made}
use Rattle.mania.specs.Object.{object}
use Rattle.mania.specs.Refusals.{Late, Blocked, Below}
use Rattle.mania.specs.Single.{made, refusal, Single, pattern_fits, settings_fit, points_fit, object_fits, with_room, entry_refusal, refusing, ending, single_object}
use Rattle.mania.specs.Single as Single
use Rattle.mania.specs.Demand.{OnDeck}
use Rattle.mania.specs.SingleClaims.{under, draws, entry, Gave, MakesNotes, Condition, RefusedBy, Claims, ledger_under}
use Rattle.model.specs.Limits.{search_limit}
use Rattle.mania.proofs.Limits.{Long, room_bound}
use Rattle.mania.proofs.Makes.{ran}
use Rattle.mania.specs.Laws.Singles.{Fits, pattern_fits_law}
use Rattle.mania.proofs.Laws.Singles.{by_rule, single_checked, single_refused, single_full}
use Rattle.mania.proofs.Meets as Meets
use Rattle.mania.proofs.Meets.{Meets, refused_meets, ended_meets}
use Rattle.mania.proofs.Conditions as Object
use Rattle.mania.proofs.Conditions.{Left, object_ends, object_not_11, late_refuses}
use Rattle.mania.proofs.Allowances.{not_spent}
use Rattle.mania.proofs.Numbers.{numbered, is_late, is_blocked, is_off, is_short, is_long_law, same_number, not_12, up_to, Number, unread, late, blocked, below, short, drawn, long, which}
use Rattle.mania.proofs.Demand.{Sound, object_notes, kind_deck}
use Rattle.chart.specs.Layout.{note_size}

abbrev kind : {S A : Type 0} → Answer S A → ℕ
kind (found a e) = 0
kind (refused x e) = 1

abbrev said : {A : Type 0} → Answer ℕ A → ℕ
said (found a e) = 0
said (refused x e) = x

abbrev is_made : Single.Answer → ℕ
is_made (made k mask last stair s n) = 1
is_made (refusal k s) = 0

abbrev number_of : Single.Answer → ℕ
number_of (made k mask last stair s n) = 0
number_of (refusal k s) = k

abbrev first_failed : Bool → Bool → Bool → Bool → ℕ
first_failed a b c d = if not a then 13 else if not b then 4 else if not c then 5 else if not d then 6 else 0

-- the number of a check, and 0 where all pass, is none of the rule's, 8 to 12
pub checks : (f : Facts) (v : PrevValues) (columns : ℕ) (o : Object) → 8 ≤ entry_refusal f v columns o → entry_refusal f v columns o ≤ 12 → ⊥
unfolding entry_refusal
checks f v columns o l h = go (pattern_fits v columns) (settings_fit f) (points_fit f) (object_fits f v o) l h
  where
    go : (a b c d : Bool) → 8 ≤ first_failed a b c d → first_failed a b c d ≤ 12 → ⊥
    go false b c d l h = omega arith
    go true false c d l h = omega arith
    go true true false d l h = omega arith
    go true true true false l h = omega arith
    go true true true true l h = omega arith

entry_fits : (f : Facts) (v : PrevValues) (columns : ℕ) (o : Object) → entry_refusal f v columns o ≡ 0 → Fits v columns
unfolding entry_refusal
entry_fits f v columns o e = pattern_fits_law v columns (fits (pattern_fits v columns) e)
  where
    fits : (a : Bool) → first_failed a (settings_fit f) (points_fit f) (object_fits f v o) ≡ 0 → a ≡ true
    fits false e = absurd (omega arith)
    fits true e = refl

-- ---- the rule with room

module _ (f : Facts) (v : PrevValues) (columns : ℕ) (o : Object) (r : Random) (buffer : List ℕ) (fit : Fits v columns) (a : ℕ) where
  abbrev rule : ObjectRule Made
  rule = object f v columns o

  abbrev roomy : ObjectRule Made
  roomy = with_room f v columns o (length buffer)

  abbrev d : Draws
  d = tallied a 0 r

  -- the longest search
  abbrev most : ℕ
  most = max 0 (longest roomy (values a r))

  abbrev at : ℕ → Draws
  at n = tallied (a - n) most (steps n r)

  back_to : (m : Made) (n : ℕ) → n ≤ a → on rule d ≡ found m (at n) → run rule (values a r) ≡ ended m n
  back_to m n l h = (found_run (λ p. spent_number) number rule d m (at n) h).0 ∙ ap (λ (k : ℕ). ended m k) (sub-sub_self l)

  -- after the object's rule
  then_room : (m : Made) (e : Draws) → on rule d ≡ found m e → on roomy d ≡ on (if ltb (length buffer) (note_size * length m.notes) then refuse too_short else give m) e
  unfolding with_room
  then_room m e h = found_bind rule _ d m e h

  abbrev made_in : Answer ℕ Made → Made → Made
  made_in (found m e) m' = m
  made_in (refused x e) m' = m'

  abbrev left_in : Answer ℕ Made → Draws
  left_in (found m e) = e
  left_in (refused x e) = e

  by_room : (m : Made) (e : Draws) → on rule d ≡ found m e → (b : Bool) → ltb (length buffer) (note_size * length m.notes) ≡ b → on roomy d ≡ (if b then refused 11 e else found m e)
  unfolding play
  by_room m e h true l = then_room m e h ∙ rw l
  by_room m e h false l = then_room m e h ∙ rw l

  made_from : (x : Answer ℕ Made) → on rule d ≡ x → (m : Made) (n : ℕ) → n ≤ a → on roomy d ≡ found m (at n) → (run rule (values a r) ≡ ended m n) × (note_size * length m.notes ≤ length buffer)
  unfolding with_room
  made_from (refused x e) u m n l h =
      let t = refused_bind rule _ d x e u in
      let z : ◌≡◌ {A = ℕ} 1 0 = ap kind (sym t ∙ h) in
      absurd (omega arith)
  made_from (found m' e) u m n l h = go (ltb (length buffer) (note_size * length m'.notes)) refl
    where
      go : (b : Bool) → ltb (length buffer) (note_size * length m'.notes) ≡ b → (run rule (values a r) ≡ ended m n) × (note_size * length m.notes ≤ length buffer)
      go true t = let z : ◌≡◌ {A = ℕ} 1 0 = ap kind (sym (by_room m' e u true t) ∙ h) in absurd (omega arith)
      go false t =
          let same = sym (by_room m' e u false t) ∙ h in
          let is_m : m' ≡ m = ap (λ (x : Answer ℕ Made). made_in x m) same in
          let is_e : e ≡ at n = ap left_in same in (
            back_to m n l (u ∙ ap (λ (x : Made). found x e) is_m ∙ ap (λ (x : Draws). found m x) is_e),
            subst (λ (x : Made). note_size * length x.notes ≤ length buffer) is_m (ltb-false (length buffer) (note_size * length m'.notes) t),
          )

  short_from : (x : Answer ℕ Made) → on rule d ≡ x → (n : ℕ) → n ≤ a → on roomy d ≡ refused 11 (at n)
      → (m : Made) × (n : ℕ) × (run rule (values a r) ≡ ended m n) × (length buffer < note_size * length m.notes)
  unfolding with_room
  short_from (refused x e) u n l h =
      let t = refused_bind rule _ d x e u in
      let is : x ≡ 11 = ap said (sym t ∙ h) in
      absurd (object_not_11 f v columns o fit.some fit.deck fit.mask fit.last d e (u ∙ ap (λ (k : ℕ). refused k e) is))
  short_from (found m e) u n l h = go (ltb (length buffer) (note_size * length m.notes)) refl
    where
      go : (b : Bool) → ltb (length buffer) (note_size * length m.notes) ≡ b → (m : Made) × (n : ℕ) × (run rule (values a r) ≡ ended m n) × (length buffer < note_size * length m.notes)
      go true t =
          let is_e : e ≡ at n = ap left_in (sym (by_room m e u true t) ∙ h) in
          (m, n, back_to m n l (u ∙ ap (λ (x : Draws). found m x) is_e), ltb-true (length buffer) (note_size * length m.notes) t)
      go false t = let z : ◌≡◌ {A = ℕ} 0 1 = ap kind (sym (by_room m e u false t) ∙ h) in absurd (omega arith)

  -- what was drawn is within the allowance
  within : (x : Outcome (Unit {0}) Refusal Made) → run roomy (values a r) ≡ x → Done x → taken x ≤ a
  within x u g = subst (λ (o : Outcome (Unit {0}) Refusal Made). taken o ≤ a) u (done_le roomy r a (subst Done (sym u) g))

  room_made : (m : Made) (n : ℕ) → run roomy (values a r) ≡ ended m n → (run rule (values a r) ≡ ended m n) × (note_size * length m.notes ≤ length buffer)
  unfolding placed taken
  room_made m n u = made_from (on rule d) refl m n (within (ended m n) u tt) (play_run (λ p. spent_number) number roomy a 0 r ∙ ap (placed (λ p. spent_number) number a most r) u)

  room_short : (n : ℕ) → run roomy (values a r) ≡ Rule.refused too_short n → (m : Made) × (n : ℕ) × (run rule (values a r) ≡ ended m n) × (length buffer < note_size * length m.notes)
  unfolding placed taken
  room_short n u = short_from (on rule d) refl n (within (Rule.refused too_short n) u tt) (play_run (λ p. spent_number) number roomy a 0 r ∙ ap (placed (λ p. spent_number) number a most r) u)

  -- the answer for an outcome of the object's rule, from state r under allowance a
  abbrev at_rule : Outcome (Unit {0}) Refusal Made → Answer ℕ Made
  at_rule x = placed (λ p. spent_number) number a (max 0 (longest rule (values a r))) r x

  rule_is : (x : Outcome (Unit {0}) Refusal Made) → run rule (values a r) ≡ x → on rule d ≡ at_rule x
  rule_is x u = play_run (λ p. spent_number) number rule a 0 r ∙ ap at_rule u

  -- a refusal other than 11 is that of the object's rule
  refused_from : (x : Outcome (Unit {0}) Refusal Made) → run rule (values a r) ≡ x → (q : Refusal) (n : ℕ) → n ≤ a → (number q ≡ 11 → ⊥) → on roomy d ≡ refused (number q) (at n)
      → run rule (values a r) ≡ Rule.refused q n
  unfolding placed taken with_room
  refused_from (ended m i) u q n l not h = go (ltb (length buffer) (note_size * length m.notes)) refl
    where
      e : Draws
      e = tallied (a - i) (max 0 (longest rule (values a r))) (steps i r)

      go : (b : Bool) → ltb (length buffer) (note_size * length m.notes) ≡ b → run rule (values a r) ≡ Rule.refused q n
      go true t = absurd (not (sym (ap said (sym (by_room m e (rule_is (ended m i) u) true t) ∙ h))))
      go false t = let z : ◌≡◌ {A = ℕ} 0 1 = ap kind (sym (by_room m e (rule_is (ended m i) u) false t) ∙ h) in absurd (omega arith)
  refused_from (Rule.refused k i) u q n l not h =
      let e : Draws = tallied (a - i) (max 0 (longest rule (values a r))) (steps i r) in
      let t = sym (refused_bind rule _ d (number k) e (rule_is (Rule.refused k i) u)) ∙ h in
      let small : i ≤ a = subst (λ (o : Outcome (Unit {0}) Refusal Made). taken o ≤ a) u (done_le rule r a (subst Done (sym u) tt)) in
      let is : a - i ≡ a - n = ap (λ (x : Answer ℕ Made). (left_in x).tally.left) t in
      u ∙ ap (λ (x : Refusal). Rule.refused x i) (same_number k q (ap said t)) ∙ ap (λ (x : ℕ). Rule.refused q x) (omega (arith, small, l, is))
  refused_from (spent p i) u q n l not h =
      let e : Draws = tallied (a - i) (max 0 (longest rule (values a r))) (steps i r) in
      absurd (not_spent q (sym (ap said (sym (refused_bind rule _ d 12 e (rule_is (spent p i) u)) ∙ h))))

  room_refused : (q : Refusal) (n : ℕ) → run roomy (values a r) ≡ Rule.refused q n → (number q ≡ 11 → ⊥) → run rule (values a r) ≡ Rule.refused q n
  unfolding placed taken
  room_refused q n u not =
      refused_from (run rule (values a r)) refl q n (within (Rule.refused q n) u tt) not (play_run (λ p. spent_number) number roomy a 0 r ∙ ap (placed (λ p. spent_number) number a most r) u)

-- ---- refusals of the rule

-- by the conditions of the object's refusals
abbrev Holds : Facts → PrevValues → ℕ → Object → Refusal → Type 0
Holds f v columns o late_end = Late f o o.kind
Holds f v columns o no_column = Blocked v columns o.kind
Holds f v columns o off_deck = Below f v columns o o.kind
Holds f v columns o too_short = Unit {0}
Holds f v columns o long_search = Unit {0}

room_ends : (f : Facts) (v : PrevValues) (columns : ℕ) (o : Object) (room : ℕ) → Fits v columns → Meets (Holds f v columns o) (λ m. Unit {0}) (with_room f v columns o room)
unfolding with_room
room_ends f v columns o room h =
    Meets.seq (Meets.less (object_ends f v columns o h.some h.deck h.mask h.last) (λ m k. tt {0}) weaker)
    (λ m u. Meets.by (ltb room (note_size * length m.notes)) _ _ (λ e. Meets.refusing tt) (λ e. Meets.giving tt))
  where
    weaker : (r : Refusal) → Object.Condition f v columns o o.kind r → Holds f v columns o r
    weaker late_end h = h
    weaker no_column h = h
    weaker off_deck h = h
    weaker too_short h = tt
    weaker long_search h = tt

module _ (f : Facts) (v : PrevValues) (columns : ℕ) (o : Object) (r : Random) (buffer : List ℕ) where
  abbrev entered : ObjectRule Made
  entered = with_room f v columns o (length buffer)

  abbrev E : ℕ
  E = entry_refusal f v columns o

  -- by what the checks say
  abbrev by : Bool → ℕ → Single
  by b a = if b then ending r buffer (run entered (values a r)) else refusing E r buffer

  abbrev drawn_by : Bool → ℕ → ℕ
  drawn_by b a = if b then taken (run entered (values a r)) else 0

  abbrev Spent : Single → Type 0
  Spent j = j.answer ≡ refusal spent_number r

  done_of : (x : Outcome (Unit {0}) Refusal Made) → (Spent (ending r buffer x) → ⊥) → Done x
  unfolding ending refusing
  done_of (ended m n) h = tt
  done_of (Rule.refused k n) h = tt
  done_of (spent p n) h = absurd (h refl)

  spent_of : (x : Outcome (Unit {0}) Refusal Made) → Spent (ending r buffer x) → (p : Unit {0}) × (x ≡ spent p (taken x))
  unfolding ending refusing taken
  spent_of (ended m n) e = let z : ◌≡◌ {A = ℕ} 1 0 = ap is_made e in absurd (omega arith)
  spent_of (Rule.refused k n) e = absurd (not_spent k (ap number_of e))
  spent_of (spent p n) e = (p, refl)

  whole_by : (b : Bool) (a : ℕ) → Spent (by b a) → drawn_by b a ≡ a
  unfolding refusing
  whole_by true a h = let s = spent_of (run entered (values a r)) h in (lawful entered r).whole a s.0 (taken (run entered (values a r))) s.1
  whole_by false a h = let z : entry_refusal f v columns o ≡ 12 = ap number_of h in absurd (checks f v columns o (omega arith) (omega arith))

  below_by : (b : Bool) (a c : ℕ) → (Spent (by b a) → ⊥) → c < drawn_by b a → by b c ≡ record { answer = refusal spent_number r; notes = buffer }
  unfolding ending refusing
  below_by true a c h l =
      let s = (lawful entered r).fewer a c (done_of (run entered (values a r)) h) l in
      ap (ending r buffer) s.1
  below_by false a c h l = absurd (none c l)
    where
      none : (c : ℕ) → c < 0 → ⊥
      none c l = omega arith

  same_by : (b : Bool) (a c : ℕ) → (Spent (by b a) → ⊥) → drawn_by b a ≤ c → by b c ≡ by b a
  same_by true a c h l = ap (ending r buffer) ((lawful entered r).same a c (done_of (run entered (values a r)) h) l)
  same_by false a c h l = refl

  -- ---- notes

  abbrev made_of : Single.Answer → ℕ × ℕ × ℕ × Stair × Random × ℕ
  made_of (made k mask last stair s n) = (k, mask, last, stair, s, n)
  made_of (refusal k s) = (0, 0, 0, v.stair, s, 0)

  gave_of : Fits v columns → (a : ℕ) (x : Outcome (Unit {0}) Refusal Made) → run entered (values a r) ≡ x → draws f v columns o r buffer a ≡ taken x
      → entry f v columns o r buffer a ≡ ending r buffer x
      → (k mask last : ℕ) (stair : Stair) (s : Random) (n : ℕ) → (ending r buffer x).answer ≡ made k mask last stair s n → Gave f v columns o r buffer a k mask last stair s n
  unfolding ending refusing taken
  gave_of t a (Rule.refused q m) u w j k mask last stair s n e = let z : ◌≡◌ {A = ℕ} 0 1 = ap is_made e in absurd (omega arith)
  gave_of t a (spent p m) u w j k mask last stair s n e = let z : ◌≡◌ {A = ℕ} 0 1 = ap is_made e in absurd (omega arith)
  gave_of t a (ended m i) u w j k mask last stair s n e =
      let p = ap made_of e in
      let own = room_made f v columns o r buffer t a m i u in
      let good : Sound (OnDeck columns) m.notes = ran (λ (m : Made). Sound (OnDeck columns) m.notes) (object f v columns o) (object_notes (OnDeck columns) columns t.some f v o (kind_deck columns f o o.kind)).made r a m i own.0 in
      let left : Left columns m = ended_meets (object f v columns o) (object_ends f v columns o t.some t.deck t.mask t.last) a r m i own.0 in
      let is_n : i ≡ n = ap (λ (x : ℕ × ℕ × ℕ × Stair × Random × ℕ). x.5) p in
      let is_k : length m.notes ≡ k = ap (λ (x : ℕ × ℕ × ℕ × Stair × Random × ℕ). x.0) p in
      record {
        state = sym (ap (λ (x : ℕ × ℕ × ℕ × Stair × Random × ℕ). x.4) p) ∙ ap (λ (x : ℕ). steps x r) is_n;
        told = sym is_n ∙ sym w;
        notes = m.notes;
        count = sym is_k;
        bytes = ap (λ (x : Single). x.notes) j;
        room = subst (λ (x : ℕ). note_size * x ≤ length buffer) is_k own.1;
        deck = good.1;
        lanes = good.0;
        mask_on = subst (λ (x : ℕ). x < 2 ^ columns) (ap (λ (x : ℕ × ℕ × ℕ × Stair × Random × ℕ). x.1) p) left.1;
        last_on = subst (λ (x : ℕ). x < columns) (ap (λ (x : ℕ × ℕ × ℕ × Stair × Random × ℕ). x.2) p) left.0;
        made =
            own.0
            ∙ ap (λ (x : ℕ). ended (record { notes = m.notes; mask = x; last = m.last; stair = m.stair }) i) (ap (λ (x : ℕ × ℕ × ℕ × Stair × Random × ℕ). x.1) p)
            ∙ ap (λ (x : ℕ). ended (record { notes = m.notes; mask = mask; last = x; stair = m.stair }) i) (ap (λ (x : ℕ × ℕ × ℕ × Stair × Random × ℕ). x.2) p)
            ∙ ap (λ (x : Stair). ended (record { notes = m.notes; mask = mask; last = last; stair = x }) i) (ap (λ (x : ℕ × ℕ × ℕ × Stair × Random × ℕ). x.3) p)
            ∙ ap (λ (x : ℕ). ended (record { notes = m.notes; mask = mask; last = last; stair = stair }) x) is_n;
      }

  gave_by : (b : Bool) → eqb E 0 ≡ b → (a : ℕ) → draws f v columns o r buffer a ≡ drawn_by b a → entry f v columns o r buffer a ≡ by b a
      → (k mask last : ℕ) (stair : Stair) (s : Random) (n : ℕ) → (by b a).answer ≡ made k mask last stair s n → Gave f v columns o r buffer a k mask last stair s n
  unfolding refusing
  gave_by true q a w j k mask last stair s n e = gave_of (entry_fits f v columns o (eqb-true E 0 q)) a (run entered (values a r)) refl w j k mask last stair s n e
  gave_by false q a w j k mask last stair s n e = let z : ◌≡◌ {A = ℕ} 0 1 = ap is_made e in absurd (omega arith)

  -- ---- refusals

  abbrev state_of : Single.Answer → Random
  state_of (made k mask last stair s n) = s
  state_of (refusal k s) = s

  refused_of : E ≡ 0 → (a : ℕ) (x : Outcome (Unit {0}) Refusal Made) → run entered (values a r) ≡ x → entry f v columns o r buffer a ≡ ending r buffer x
      → (k : ℕ) (s : Random) → (ending r buffer x).answer ≡ refusal k s → RefusedBy f v columns o r buffer a k s
  unfolding ending refusing under ledger_under
  refused_of c a (ended m n) u j k s e = let z : ◌≡◌ {A = ℕ} 1 0 = ap is_made e in absurd (omega arith)
  refused_of c a (Rule.refused q n) u j k s e =
      let is : number q ≡ k = ap number_of e in
      let t = numbered q in
      let holds : Holds f v columns o q = refused_meets entered (room_ends f v columns o (length buffer) (entry_fits f v columns o c)) a r q n u in
      record {
        lent = sym (ap state_of e);
        unwritten = ap (λ (x : Single). x.notes) j;
        condition = record {
          checked = λ h. absurd (h c);
          from = λ h. omega (arith, t.0);
          to = λ h. subst (λ (x : ℕ). (x ≤ 12) ⊎ (x ≡ 16)) is (up_to (number q) t.1);
          late = λ h i. subst (Holds f v columns o) (is_late q (is ∙ i)) holds;
          blocked = λ h i. (n, room_refused f v columns o r buffer (entry_fits f v columns o c) a no_column n (u ∙ ap (λ (x : Refusal). Rule.refused x n) (is_blocked q (is ∙ i))) (λ z. omega arith));
          off = λ h i. (n, room_refused f v columns o r buffer (entry_fits f v columns o c) a off_deck n (u ∙ ap (λ (x : Refusal). Rule.refused x n) (is_off q (is ∙ i))) (λ z. omega arith));
          short = λ h i. room_short f v columns o r buffer (entry_fits f v columns o c) a n (u ∙ ap (λ (x : Refusal). Rule.refused x n) (is_short q (is ∙ i)));
          drawn = λ h i. absurd (not_12 (number q) t.1 (is ∙ i));
          long = λ h i.
              let w = u ∙ ap (λ (x : Refusal). Rule.refused x n) (is_long_law q (is ∙ i)) in
              (n, w, refused_full search_limit Long entered (room_bound f v columns o (length buffer)).limits (values a r) long_search n w refl);
        };
      }
  refused_of c a (spent p n) u j k s e =
      let is : 12 ≡ k = ap number_of e in
      let w : n ≡ a = (lawful entered r).whole a p n u in
      record {
        lent = sym (ap state_of e);
        unwritten = ap (λ (x : Single). x.notes) j;
        condition = record {
          checked = λ h. absurd (h c);
          from = λ h. omega arith;
          to = λ h. inl (omega arith);
          late = λ h i. absurd (omega arith);
          blocked = λ h i. absurd (omega arith);
          off = λ h i. absurd (omega arith);
          short = λ h i. absurd (omega arith);
          drawn = λ h i. u ∙ ap (λ (x : ℕ). spent p x) w;
          long = λ h i. absurd (omega arith);
        };
      }

  refused_in : (b : Bool) → eqb E 0 ≡ b → (a : ℕ) → entry f v columns o r buffer a ≡ by b a → (k : ℕ) (s : Random) → (by b a).answer ≡ refusal k s → RefusedBy f v columns o r buffer a k s
  unfolding refusing
  refused_in true q a j k s e = refused_of (eqb-true E 0 q) a (run entered (values a r)) refl j k s e
  refused_in false q a j k s e =
      let none : E ≡ 0 → ⊥ = eqb-false E 0 q in
      record {
        lent = sym (ap state_of e);
        unwritten = ap (λ (x : Single). x.notes) j;
        condition = record {
          checked = λ h. sym (ap number_of e);
          from = λ h. absurd (none h);
          to = λ h. absurd (none h);
          late = λ h i. absurd (none h);
          blocked = λ h i. absurd (none h);
          off = λ h i. absurd (none h);
          short = λ h i. absurd (none h);
          drawn = λ h i. absurd (none h);
          long = λ h i. absurd (none h);
        };
      }

  -- ---- where a condition holds, the entry refuses so

  abbrev Refuses : ℕ → ℕ → Type 0
  Refuses a k = entry f v columns o r buffer a ≡ refusing k r buffer

  module _ (c : E ≡ 0) (a : ℕ) where
    -- the object's rule is refused
    stops : (q : Refusal) (n : ℕ) → run (object f v columns o) (values a r) ≡ Rule.refused q n → Refuses a (number q)
    unfolding placed
    stops q n u = single_refused f v columns o r a buffer c (number q) _ (play_run (λ p. spent_number) number (object f v columns o) a 0 r ∙ ap (placed (λ p. spent_number) number a _ r) u)

    -- its notes are longer than the buffer
    too_long : (m : Made) (n : ℕ) → run (object f v columns o) (values a r) ≡ ended m n → length buffer < note_size * length m.notes → Refuses a 11
    unfolding placed
    too_long m n u l =
        single_full f v columns o r a buffer c m _ (play_run (λ p. spent_number) number (object f v columns o) a 0 r ∙ ap (placed (λ p. spent_number) number a _ r) u)
        (lt-ltb (length buffer) (note_size * length m.notes) l)

    ends : (x : Outcome (Unit {0}) Refusal Made) → under f v columns o r buffer a ≡ x → entry f v columns o r buffer a ≡ ending r buffer x
    unfolding under
    ends x u = by_rule f v columns o r a buffer c ∙ ap (ending r buffer) u

    by_number : (k : ℕ) → Condition f v columns o r buffer a k → Number k → Refuses a k
    unfolding ending
    by_number k h (unread l) = absurd (omega (arith, h.from c))
    by_number k h (late e) = single_refused f v columns o r a buffer c 8 _ (late_refuses f v columns o (h.late c e) (tallied a 0 r)) ∙ ap (λ (x : ℕ). refusing x r buffer) (sym e)
    by_number k h (blocked e) = let w = h.blocked c e in stops no_column w.0 w.1 ∙ ap (λ (x : ℕ). refusing x r buffer) (sym e)
    by_number k h (below e) = let w = h.off c e in stops off_deck w.0 w.1 ∙ ap (λ (x : ℕ). refusing x r buffer) (sym e)
    by_number k h (short e) = let w = h.short c e in too_long w.0 w.1 w.2 w.3 ∙ ap (λ (x : ℕ). refusing x r buffer) (sym e)
    by_number k h (drawn e) = ends (spent tt a) (h.drawn c e) ∙ ap (λ (x : ℕ). refusing x r buffer) (sym e)
    by_number k h (long e) = let w = h.long c e in ends (Rule.refused long_search w.0) w.1 ∙ ap (λ (x : ℕ). refusing x r buffer) (sym e)

  refused_so : (a k : ℕ) → Condition f v columns o r buffer a k → Refuses a k
  refused_so a k h = go (eqb E 0) refl
    where
      go : (b : Bool) → eqb E 0 ≡ b → Refuses a k
      go true e = let c = eqb-true E 0 e in by_number c a k h (which k (h.to c))
      go false e = let x = eqb-false E 0 e in single_checked f v columns o r a buffer x ∙ ap (λ (n : ℕ). refusing n r buffer) (sym (h.checked x))

  -- where none holds it makes notes
  makes_notes : (a : ℕ) (x : Single.Answer) → (entry f v columns o r buffer a).answer ≡ x → ((k : ℕ) (s : Random) → x ≡ refusal k s → ⊥) → MakesNotes f v columns o r buffer a
  makes_notes a (made k mask last stair s n) e h = record { count = k; mask = mask; last = last; stair = stair; state = s; drawn = n; answer = e }
  makes_notes a (refusal k s) e h = absurd (h k s refl)

  -- what 9 and 10 come to
  come_to : E ≡ 0 → (a : ℕ) (q : Refusal) (n : ℕ) → run (object f v columns o) (values a r) ≡ Rule.refused q n → Object.Condition f v columns o o.kind q
  come_to c a q n u =
      let t = entry_fits f v columns o c in
      refused_meets (object f v columns o) (object_ends f v columns o t.some t.deck t.mask t.last) a r q n u

  pub claims : Claims f v columns o r buffer
  unfolding single_object draws under refusing
  claims =
      let b = eqb E 0 in
      record {
        whole = λ a h. whole_by b a h;
        below = λ a c h l. below_by b a c h l;
        only = λ a c h s. lt_of_not-le (λ l. h (subst Spent (same_by b a c h l) s));
        same = λ a c h l. same_by b a c h l;
        gave = λ a k mask last stair s n e. gave_by b refl a refl refl k mask last stair s n e;
        refuses = λ a k s e. refused_in b refl a refl k s e;
        answers = refused_so;
        one = λ a k l c d. ap (λ (j : Single). number_of j.answer) (sym (refused_so a k c) ∙ refused_so a l d);
        otherwise = λ a h. makes_notes a (entry f v columns o r buffer a).answer refl (λ k s e. h k (refused_in b refl a refl k s e).condition);
        blocked = λ a c w. come_to c a no_column w.0 w.1;
        off = λ a c w. come_to c a off_deck w.0 w.1;
      }
