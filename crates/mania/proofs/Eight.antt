-- 8 in a walk: the objects before the late slider made their notes, and it draws nothing. Assumes nothing.
use Rattle.std.specs.Prelude.{if◌then◌else◌}
use mathlib.Core.Path.{◌≡◌, refl, sym, ap, ◌∙◌, subst}
use Prim.Native.Nat.{ℕ, suc, ◌+◌, ◌-◌, ◌≤◌, max}
use native.Mathlib.Nat.{add-zero, zero-add}
use native.Mathlib.Omega.{arith}
use mathlib.Core.Bool.{Bool, true, false}
use mathlib.Core.List.{List, [], ◌∷◌}
use lib.Arith.{sub-sub_self}
use lib.Dec.{ltb}
use lib.ListN.{length, take}
use lib.Pow.{pow_pos}
use borrow.Author.Tests.{ltb-false}
use Rattle.rules.specs.Rule.{Rule, refuse, Outcome, ended, run, taken, Done}
use Rattle.rules.specs.Rule as Rule
use Rattle.rules.specs.Ledger.{longest}
use Rattle.rules.specs.Refusal.{late_end, too_short, ObjectRule, number}
use Rattle.random.specs.Generator.{values, seeded, steps}
use Rattle.random.specs.Play.{Answer, found, refused, on, play, tallied}
use Rattle.random.specs.declared.Random.{Random}
use Rattle.random.specs.declared.Draws.{Draws}
use Rattle.random.specs.Laws.Play.{placed, play_run}
use Rattle.random.specs.Laws.Allowance.{done_le, found_run}
use Rattle.mania.specs.declared.Note.{Note}
use Rattle.model.specs.Song.{Song}
use Rattle.model.specs.declared.Object.{Object}
use Rattle.mania.specs.declared.Facts.{Facts}
use Rattle.mania.specs.Made.{Made}
use Rattle.mania.specs.LimitedQueue.{Density}
use Rattle.mania.specs.Object.{object}
use Rattle.mania.specs.Convert.{Walk, SongFacts, song_facts, AtObject, at, seed, columns_of, beginning, meets, facts_at, walk_after, after_object, walk, convert}
use Rattle.mania.specs.Walked.{Stop, stop, spent_at, refused_at, on_walk}
use Rattle.mania.specs.Refusals.{LateAt, TooLate}
use Rattle.mania.specs.Job.{under}
use Rattle.mania.specs.Laws.Walks.{before, walk_refused, walk_full, walk_made}
use Rattle.mania.proofs.Meets.{refused_meets}
use Rattle.mania.proofs.Conditions.{object_left, undrawn_8}
use Rattle.mania.proofs.Demand.{some_columns}
use Rattle.mania.proofs.Reach.{convert_ends}
use Rattle.mania.proofs.Eleven.{kind, stop_at, left, before_none, before_refused, On}
use Rattle.chart.specs.Layout.{header_size, chart_size}

abbrev said : Outcome ℕ AtObject (List (List Note)) → ℕ
said (ended nss n) = 0
said (Rule.refused r n) = number r.refusal
said (Rule.spent i n) = 12

-- the notes of the objects before the k-th, which is at index j
record Prior (s : SongFacts) (columns room i : ℕ) (w : Walk) (os : List Object) (d : Draws) (j : ℕ) (e : Draws) : Type 0 where
  k : ℕ
  at : j ≡ i + k
  nss : List (List Note)
  made : on_walk (walk s columns room i w (take k os)) d ≡ found nss e

module _ (s : SongFacts) (columns room : ℕ) (some : 1 ≤ columns) (deck : columns ≤ 9) where
  module _ (o : Object) (os : List Object) (i : ℕ) (w : Walk) (on_deck : On columns w) (d : Draws) (j : ℕ) (e : Draws)
      (rest : (i : ℕ) (w : Walk) → On columns w → (d : Draws) (j : ℕ) (e : Draws) → on_walk (walk s columns room i w os) d ≡ refused (stop j 8) e → Prior s columns room i w os d j e)
      (h : on_walk (walk s columns room i w (o ∷ os)) d ≡ refused (stop j 8) e) where
    abbrev dens : Density
    dens = meets o.kind o.start w.density

    abbrev facts : Facts
    facts = facts_at s dens o

    abbrev rule : ObjectRule Made
    rule = object facts w.prev columns o

    -- after notes that have no room the walk is refused by 11
    full : (made : Made) (f : Draws) → on rule d ≡ found made f → ltb room (chart_size (w.notes + length made.notes)) ≡ true → ⊥
    full made f u l =
        let t = sym (before_none (on_walk (walk s columns room i w (o ∷ os)) d)) ∙ walk_full s columns room i w o os d made f u l [] in
        let is : ◌≡◌ {A = ℕ} 11 8 = ap (λ (a : Answer Stop (List (List Note))). (stop_at a).number) (sym t ∙ h) in
        omega arith

    later : (made : Made) (f : Draws) → on rule d ≡ found made f → ltb room (chart_size (w.notes + length made.notes)) ≡ false → Prior s columns room i w (o ∷ os) d j e
    unfolding before after_object walk_after
    later made f u l =
        let on_from : (os : List Object) → on_walk (walk s columns room i w (o ∷ os)) d ≡ before (made.notes ∷ []) (on_walk (walk s columns room (suc i) (after_object facts o dens made w) os) f)
        = λ os. sym (before_none (on_walk (walk s columns room i w (o ∷ os)) d)) ∙ walk_made s columns room i w o os d made f u l [] in
        let next_on = object_left facts w.prev columns o some deck on_deck.0 on_deck.1 d made f u in
        let r = rest (suc i) (after_object facts o dens made w) (next_on.1, next_on.0) f j e (before_refused (made.notes ∷ []) _ (stop j 8) e (sym (on_from os) ∙ h)) in
        record {
          k = suc r.k;
          at = r.at ∙ next i r.k;
          nss = made.notes ∷ r.nss;
          made = on_from (take r.k os) ∙ ap (before (made.notes ∷ [])) r.made;
        }
      where
        next : (i k : ℕ) → suc i + k ≡ i + suc k
        next i k = omega arith

    found_object : (made : Made) (f : Draws) → on rule d ≡ found made f → (b : Bool) → ltb room (chart_size (w.notes + length made.notes)) ≡ b → Prior s columns room i w (o ∷ os) d j e
    found_object made f u true l = absurd (full made f u l)
    found_object made f u false l = later made f u l

    by_object : (a : Answer ℕ Made) → on rule d ≡ a → Prior s columns room i w (o ∷ os) d j e
    unfolding walk play
    by_object (found made f) u = found_object made f u (ltb room (chart_size (w.notes + length made.notes))) refl
    by_object (refused x f) u =
        let t = sym (before_none (on_walk (walk s columns room i w (o ∷ os)) d)) ∙ walk_refused s columns room i w o os d x f u [] in
        let is : x ≡ 8 = ap (λ (a : Answer Stop (List (List Note))). (stop_at a).number) (sym t ∙ h) in
        let here : i ≡ j = ap (λ (a : Answer Stop (List (List Note))). (stop_at a).object) (sym t ∙ h) in
        let ends : f ≡ e = ap (left d) (sym t ∙ h) in
        let none : d ≡ f = undrawn_8 facts w.prev columns o some deck on_deck.0 on_deck.1 d f (u ∙ ap (λ (y : ℕ). refused y f) is) in
        record { k = 0; at = sym here ∙ sym (add-zero i); nss = []; made = ap (λ (x : Draws). found [] x) (none ∙ ends) }

  eight : (os : List Object) (i : ℕ) (w : Walk) → On columns w → (d : Draws) (j : ℕ) (e : Draws) → on_walk (walk s columns room i w os) d ≡ refused (stop j 8) e
      → Prior s columns room i w os d j e
  unfolding walk play
  eight [] i w on_deck d j e h = let z : ◌≡◌ {A = ℕ} 0 1 = ap kind h in absurd (omega arith)
  eight (o ∷ os) i w on_deck d j e h = by_object o os i w on_deck d j e (eight os) h (on (object (facts_at s (meets o.kind o.start w.density) o) w.prev columns o) d) refl

-- ---- the job

module _ (s : Song) (deck : columns_of s ≤ 9) (room a i n : ℕ) where
  abbrev st : Random
  st = seeded (seed s.settings)

  abbrev whole : List Object → Rule ℕ AtObject (List (List Note))
  whole os = walk (song_facts s) (columns_of s) room 0 beginning os

  walked : header_size ≤ room → LateAt (song_facts s) s.objects i → run (whole s.objects) (values a st) ≡ Rule.refused (at i late_end) n → TooLate s room a i n
  unfolding placed taken beginning
  walked header late u =
      let m = whole s.objects in
      let most = max 0 (longest m (values a st)) in
      let d : Draws = tallied a 0 st in
      let e : Draws = tallied (a - n) most (steps n st) in
      let h : on_walk m d ≡ refused (stop i 8) e = play_run spent_at refused_at m a 0 st ∙ ap (placed spent_at refused_at a most st) u in
      let l = eight (song_facts s) (columns_of s) room (some_columns s) deck s.objects 0 beginning (pow_pos (columns_of s), some_columns s) d i e h in
      let small : n ≤ a = subst (λ (o : Outcome ℕ AtObject (List (List Note))). taken o ≤ a) u (done_le m st a (subst Done (sym u) tt)) in
      let k_is : l.k ≡ i = sym (zero-add l.k) ∙ sym l.at in
      record {
        header = header;
        nss = l.nss;
        made =
            subst (λ (k : ℕ). run (whole (take k s.objects)) (values a st) ≡ ended l.nss n) k_is
            ((found_run spent_at refused_at (whole (take l.k s.objects)) d l.nss e l.made).0 ∙ ap (λ (j : ℕ). ended l.nss j) (sub-sub_self small));
        late = late;
      }

  -- a buffer without room for a header is refused by 11
  by_room : (b : Bool) → ltb room header_size ≡ b → LateAt (song_facts s) s.objects i → run (if b then refuse (at 0 too_short) else whole s.objects) (values a st) ≡ Rule.refused (at i late_end) n → TooLate s room a i n
  unfolding run
  by_room true t late u = let z : ◌≡◌ {A = ℕ} 11 8 = ap said u in absurd (omega arith)
  by_room false t late u = walked (ltb-false room header_size t) late u

-- the slider at index i ends too late
late_at : (s : Song) → columns_of s ≤ 9 → (buffer : List ℕ) (a i n : ℕ) → under s buffer a ≡ Rule.refused (at i late_end) n → LateAt (song_facts s) s.objects i
unfolding under
late_at s deck buffer a i n u =
    let k = (refused_meets (convert s (length buffer)) (convert_ends s (length buffer) deck) a (seeded (seed s.settings)) (at i late_end) n u).late refl in
    subst (LateAt (song_facts s) s.objects) (sym (zero-add k.0) ∙ sym k.1) k.2

pub job_eight : (s : Song) → columns_of s ≤ 9 → (buffer : List ℕ) (a i n : ℕ) → under s buffer a ≡ Rule.refused (at i late_end) n → TooLate s (length buffer) a i n
unfolding under convert
job_eight s deck buffer a i n u = by_room s deck (length buffer) a i n (ltb (length buffer) header_size) refl (late_at s deck buffer a i n u) u
