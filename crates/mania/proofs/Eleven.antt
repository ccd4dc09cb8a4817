-- 11 in a walk: the notes of the objects before fit; with room enough the next one makes notes too, after the same draws, and a chart of them is longer
-- than the buffer. Assumes nothing.
use Rattle.std.specs.Prelude.{if◌then◌else◌}
use mathlib.Core.Path.{◌≡◌, refl, sym, ap, ◌∙◌, subst}
use mathlib.Core.Logic.{◌⊎◌, inl, inr}
use Prim.Native.Nat.{ℕ, suc, ◌+◌, ◌-◌, ◌^◌, ◌≤◌, ◌<◌, max}
use native.Mathlib.Nat.{add-zero, zero-add}
use native.Mathlib.Omega.{arith}
use mathlib.Core.Bool.{Bool, true, false}
use mathlib.Core.List.{List, [], ◌∷◌, append-nil}
use lib.Arith.{sub-sub_self}
use lib.Dec.{ltb}
use lib.ListN.{length, take, length-append}
use lib.Pow.{pow_pos}
use borrow.Author.Tests.{ltb-true, ltb-false, le-ltb}
use Rattle.rules.specs.Rule.{Rule, refuse, Outcome, ended, run, taken, Done}
use Rattle.rules.specs.Ledger.{longest}
use Rattle.rules.specs.Refusal.{too_short, ObjectRule}
use Rattle.rules.specs.Rule as Rule
use Rattle.random.specs.Generator.{values, seeded, steps}
use Rattle.random.specs.Play.{Answer, found, refused, on, play, tallied}
use Rattle.random.specs.declared.Random.{Random}
use Rattle.random.specs.declared.Draws.{Draws}
use Rattle.random.specs.Laws.Play.{placed, play_run}
use Rattle.random.specs.Laws.Allowance.{done_le, found_run}
use Rattle.mania.specs.declared.Note.{Note}
use Rattle.model.specs.declared.Object.{Object}
use Rattle.mania.specs.declared.Facts.{Facts}
use Rattle.mania.specs.Made.{Made}
use Rattle.mania.specs.LimitedQueue.{Density}
use Rattle.mania.specs.Object.{object}
use Rattle.mania.specs.Chart.{in_walk_order}
use Rattle.model.specs.Song.{Song}
use Rattle.mania.specs.Convert.{Walk, SongFacts, song_facts, AtObject, at, seed, columns_of, beginning, meets, facts_at, walk_after, after_object, walk, convert}
use Rattle.mania.specs.Walked.{Stop, stop, spent_at, refused_at, on_walk}
use Rattle.mania.specs.Refusals.{TooLong}
use Rattle.mania.specs.Job.{under}
use Rattle.mania.proofs.Conditions.{object_left, object_not_11}
use Rattle.mania.proofs.Demand.{some_columns}
use Rattle.mania.specs.Laws.Walks.{before, walk_none, walk_refused, walk_full, walk_made}
use Rattle.chart.specs.Layout.{header_size, chart_size}

abbrev pub kind : {R A : Type 0} → Answer R A → ℕ
kind (found a e) = 0
kind (refused x e) = 1

-- ---- the walk

abbrev pub stop_at : Answer Stop (List (List Note)) → Stop
stop_at (found a e) = stop 0 0
stop_at (refused x e) = x

abbrev pub left : {R A : Type 0} → Draws → Answer R A → Draws
left d (found a e) = e
left d (refused x e) = e

pub before_none : (a : Answer Stop (List (List Note))) → before [] a ≡ a
unfolding before
before_none (found mss d) = refl
before_none (refused r d) = refl

pub before_refused : (nss : List (List Note)) (a : Answer Stop (List (List Note))) (r : Stop) (e : Draws) → before nss a ≡ refused r e → a ≡ refused r e
unfolding before
before_refused nss (found mss d) r e h = let z : ◌≡◌ {A = ℕ} 0 1 = ap kind h in absurd (omega arith)
before_refused nss (refused x d) r e h = h

pub none_made : (s : SongFacts) (columns room i : ℕ) (w : Walk) (d : Draws) → on_walk (walk s columns room i w []) d ≡ found [] d
unfolding walk play
none_made s columns room i w d = refl

-- the notes so far, of the objects up to and with the k-th
pub record Long (s : SongFacts) (columns room i : ℕ) (w : Walk) (os : List Object) (d : Draws) (j : ℕ) (e : Draws) : Type 0 where
  pub k : ℕ
  pub at : j ≡ i + k
  pub nss : List (List Note)
  pub made : (wide : ℕ) → chart_size (w.notes + length (in_walk_order nss)) ≤ wide → on_walk (walk s columns wide i w (take (suc k) os)) d ≡ found nss e
  pub long : room < chart_size (w.notes + length (in_walk_order nss))
  pub before : List (List Note)
  pub left : Draws
  pub fit : on_walk (walk s columns room i w (take k os)) d ≡ found before left

length_one : (ns : List Note) → length (in_walk_order (ns ∷ [])) ≡ length ns
unfolding in_walk_order
length_one ns = ap length (append-nil ns)

pub length_more : (ns : List Note) (nss : List (List Note)) → length (in_walk_order (ns ∷ nss)) ≡ length ns + length (in_walk_order nss)
unfolding in_walk_order
length_more ns nss = length-append ns (in_walk_order nss)

-- what an object meets lies on the deck
abbrev pub On : ℕ → Walk → Type 0
On columns w = (w.prev.mask < 2 ^ columns) × (w.prev.last < columns)

module _ (s : SongFacts) (columns room : ℕ) (some : 1 ≤ columns) (deck : columns ≤ 9) where
  -- one object, with room enough
  wide_made : (i : ℕ) (w : Walk) (o : Object) (os : List Object) (d e : Draws) (made : Made) (wide : ℕ)
      → on (object (facts_at s (meets o.kind o.start w.density) o) w.prev columns o) d ≡ found made e → chart_size (w.notes + length made.notes) ≤ wide
      → on_walk (walk s columns wide i w (o ∷ os)) d
      ≡ before (made.notes ∷ []) (on_walk (walk s columns wide (suc i)
      (after_object (facts_at s (meets o.kind o.start w.density) o) o (meets o.kind o.start w.density) made w) os) e)
  wide_made i w o os d e made wide h l =
      sym (before_none (on_walk (walk s columns wide i w (o ∷ os)) d)) ∙ walk_made s columns wide i w o os d made e h (le-ltb wide _ l) []

  module _ (o : Object) (os : List Object) (i : ℕ) (w : Walk) (on_deck : On columns w) (d : Draws) (j : ℕ) (e : Draws)
      (rest : (i : ℕ) (w : Walk) → On columns w → (d : Draws) (j : ℕ) (e : Draws) → on_walk (walk s columns room i w os) d ≡ refused (stop j 11) e → Long s columns room i w os d j e)
      (h : on_walk (walk s columns room i w (o ∷ os)) d ≡ refused (stop j 11) e) where
    abbrev dens : Density
    dens = meets o.kind o.start w.density

    abbrev facts : Facts
    facts = facts_at s dens o

    abbrev rule : ObjectRule Made
    rule = object facts w.prev columns o

    here : (made : Made) (f : Draws) → on rule d ≡ found made f → ltb room (chart_size (w.notes + length made.notes)) ≡ true → Long s columns room i w (o ∷ os) d j e
    unfolding before
    here made f u l =
        let t = sym (before_none (on_walk (walk s columns room i w (o ∷ os)) d)) ∙ walk_full s columns room i w o os d made f u l [] in
        let ends : f ≡ e = ap (left d) (sym t ∙ h) in
        let at : i ≡ j = ap (λ (a : Answer Stop (List (List Note))). (stop_at a).object) (sym t ∙ h) in
        record {
          k = 0;
          at = sym at ∙ sym (add-zero i);
          nss = made.notes ∷ [];
          made = λ wide m.
              wide_made i w o [] d f made wide u (subst (λ (n : ℕ). chart_size (w.notes + n) ≤ wide) (length_one made.notes) m)
              ∙ walk_none s columns wide (suc i) _ (made.notes ∷ []) f ∙ ap (λ (x : Draws). found (made.notes ∷ []) x) ends;
          long = subst (λ (n : ℕ). room < chart_size (w.notes + n)) (sym (length_one made.notes)) (ltb-true room _ l);
          before = [];
          left = d;
          fit = none_made s columns room i w d;
        }

    later : (made : Made) (f : Draws) → on rule d ≡ found made f → ltb room (chart_size (w.notes + length made.notes)) ≡ false → Long s columns room i w (o ∷ os) d j e
    unfolding before after_object walk_after
    later made f u l =
        let on_from : (os : List Object) → on_walk (walk s columns room i w (o ∷ os)) d ≡ before (made.notes ∷ []) (on_walk (walk s columns room (suc i) (after_object facts o dens made w) os) f)
        = λ os. sym (before_none (on_walk (walk s columns room i w (o ∷ os)) d)) ∙ walk_made s columns room i w o os d made f u l [] in
        let next_on = object_left facts w.prev columns o some deck on_deck.0 on_deck.1 d made f u in
        let r = rest (suc i) (after_object facts o dens made w) (next_on.1, next_on.0) f j e (before_refused (made.notes ∷ []) _ (stop j 11) e (sym (on_from os) ∙ h)) in
        let sizes = length_more made.notes r.nss in
        record {
          k = suc r.k;
          at = r.at ∙ next i r.k;
          nss = made.notes ∷ r.nss;
          made = λ wide m.
              wide_made i w o (take (suc r.k) os) d f made wide u (first w.notes (length made.notes) (length (in_walk_order r.nss)) wide sizes m)
              ∙ ap (before (made.notes ∷ [])) (r.made wide (all w.notes (length made.notes) (length (in_walk_order r.nss)) wide sizes m));
          long = past w.notes (length made.notes) (length (in_walk_order r.nss)) sizes r.long;
          before = made.notes ∷ r.before;
          left = r.left;
          fit = on_from (take r.k os) ∙ ap (before (made.notes ∷ [])) r.fit;
        }
      where
        next : (i k : ℕ) → suc i + k ≡ i + suc k
        next i k = omega arith

        first : (a b c wide : ℕ) {n : ℕ} → n ≡ b + c → chart_size (a + n) ≤ wide → chart_size (a + b) ≤ wide
        first a b c wide e h = omega arith

        all : (a b c wide : ℕ) {n : ℕ} → n ≡ b + c → chart_size (a + n) ≤ wide → chart_size (a + b + c) ≤ wide
        all a b c wide e h = omega arith

        past : (a b c : ℕ) {n : ℕ} → n ≡ b + c → room < chart_size (a + b + c) → room < chart_size (a + n)
        past a b c e h = omega arith

    found_object : (made : Made) (f : Draws) → on rule d ≡ found made f → (b : Bool) → ltb room (chart_size (w.notes + length made.notes)) ≡ b → Long s columns room i w (o ∷ os) d j e
    found_object made f u true l = here made f u l
    found_object made f u false l = later made f u l

    by_object : (a : Answer ℕ Made) → on rule d ≡ a → Long s columns room i w (o ∷ os) d j e
    by_object (found made f) u = found_object made f u (ltb room (chart_size (w.notes + length made.notes))) refl
    by_object (refused x f) u =
        let t = sym (before_none (on_walk (walk s columns room i w (o ∷ os)) d)) ∙ walk_refused s columns room i w o os d x f u [] in
        let is : x ≡ 11 = ap (λ (a : Answer Stop (List (List Note))). (stop_at a).number) (sym t ∙ h) in
        absurd (object_not_11 facts w.prev columns o some deck on_deck.0 on_deck.1 d f (u ∙ ap (λ (y : ℕ). refused y f) is))

  pub eleven : (os : List Object) (i : ℕ) (w : Walk) → On columns w → (d : Draws) (j : ℕ) (e : Draws) → on_walk (walk s columns room i w os) d ≡ refused (stop j 11) e
      → Long s columns room i w os d j e
  unfolding walk play
  eleven [] i w on_deck d j e h = let z : ◌≡◌ {A = ℕ} 0 1 = ap kind h in absurd (omega arith)
  eleven (o ∷ os) i w on_deck d j e h = by_object o os i w on_deck d j e (eleven os) h (on (object (facts_at s (meets o.kind o.start w.density) o) w.prev columns o) d) refl

-- ---- the job

module _ (s : Song) (deck : columns_of s ≤ 9) (room a i n : ℕ) where
  abbrev st : Random
  st = seeded (seed s.settings)

  abbrev whole : ℕ → List Object → Rule ℕ AtObject (List (List Note))
  whole wide os = walk (song_facts s) (columns_of s) wide 0 beginning os

  walked : header_size ≤ room → run (whole room s.objects) (values a st) ≡ Rule.refused (at i too_short) n → TooLong s room a i n
  unfolding placed taken beginning
  walked header u =
      let m = whole room s.objects in
      let most = max 0 (longest m (values a st)) in
      let d : Draws = tallied a 0 st in
      let e : Draws = tallied (a - n) most (steps n st) in
      let h : on_walk m d ≡ refused (stop i 11) e = play_run spent_at refused_at m a 0 st ∙ ap (placed spent_at refused_at a most st) u in
      let l = eleven (song_facts s) (columns_of s) room (some_columns s) deck s.objects 0 beginning (pow_pos (columns_of s), some_columns s) d i e h in
      let small : n ≤ a = subst (λ (o : Outcome ℕ AtObject (List (List Note))). taken o ≤ a) u (done_le m st a (subst Done (sym u) tt)) in
      let k_is : l.k ≡ i = sym (zero-add l.k) ∙ sym l.at in
      record {
        header = header;
        before = l.before;
        drawn = a - l.left.tally.left;
        fit =
            subst (λ (k : ℕ). run (whole room (take k s.objects)) (values a st) ≡ ended l.before (a - l.left.tally.left)) k_is
            (found_run spent_at refused_at (whole room (take l.k s.objects)) d l.before l.left l.fit).0;
        nss = l.nss;
        made = λ wide w.
            subst (λ (k : ℕ). run (whole wide (take (suc k) s.objects)) (values a st) ≡ ended l.nss n) k_is
            ((found_run spent_at refused_at (whole wide (take (suc l.k) s.objects)) d l.nss e (l.made wide (none wide (length (in_walk_order l.nss)) w))).0
            ∙ ap (λ (j : ℕ). ended l.nss j) (sub-sub_self small));
        long = out (length (in_walk_order l.nss)) l.long;
      }
    where
      none : (wide k : ℕ) → chart_size k ≤ wide → chart_size (0 + k) ≤ wide
      none wide k h = omega arith

      out : (k : ℕ) → room < chart_size (0 + k) → room < chart_size k
      out k h = omega arith

  abbrev said : Outcome ℕ AtObject (List (List Note)) → ℕ × ℕ
  said (ended nss n) = (0, n)
  said (Rule.refused r n) = (r.object, n)
  said (Rule.spent i n) = (i, n)

  by_room : (b : Bool) → ltb room header_size ≡ b → run (if b then refuse (at 0 too_short) else whole room s.objects) (values a st) ≡ Rule.refused (at i too_short) n
      → ((room < header_size) × (i ≡ 0) × (n ≡ 0)) ⊎ TooLong s room a i n
  unfolding run
  by_room true e u = inl (ltb-true room header_size e, sym (ap (λ o. (said o).0) u), sym (ap (λ o. (said o).1) u))
  by_room false e u = inr (walked (ltb-false room header_size e) u)

pub job_eleven : (s : Song) → columns_of s ≤ 9 → (buffer : List ℕ) (a i n : ℕ) → under s buffer a ≡ Rule.refused (at i too_short) n
    → ((length buffer < header_size) × (i ≡ 0) × (n ≡ 0)) ⊎ TooLong s (length buffer) a i n
unfolding under convert
job_eleven s deck buffer a i n u = by_room s deck (length buffer) a i n (ltb (length buffer) header_size) refl u
