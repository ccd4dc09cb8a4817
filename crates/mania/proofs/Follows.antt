-- `reaches` goes as the walk does. Assumes nothing.
use mathlib.Core.Path.{◌≡◌, refl, sym, ap, ◌∙◌, subst}
use Prim.Native.Nat.{ℕ, zero, suc, ◌+◌, ◌-◌, ◌≤◌, max}
use native.Mathlib.Nat.{add-zero, zero-add}
use native.Mathlib.Omega.{arith}
use mathlib.Core.Bool.{Bool, true, false}
use mathlib.Core.List.{List, [], ◌∷◌}
use lib.Arith.{sub-sub_self}
use lib.Dec.{ltb}
use lib.ListN.{length, take}
use Rattle.rules.specs.Rule.{give, Outcome, ended, run, taken, Done}
use Rattle.rules.specs.Ledger.{longest}
use Rattle.rules.specs.Refusal.{number, spent_number, ObjectRule}
use Rattle.random.specs.Generator.{values, steps}
use Rattle.random.specs.Play.{Answer, found, refused, on, play, tallied}
use Rattle.random.specs.declared.Random.{Random}
use Rattle.random.specs.declared.Draws.{Draws}
use Rattle.random.specs.Laws.Play.{placed, play_run}
use Rattle.random.specs.Laws.On.{found_bind}
use Rattle.random.specs.Laws.Allowance.{done_le, found_run}
use Rattle.model.specs.Song.{Song}
use Rattle.model.specs.declared.Object.{Object}
use Rattle.mania.specs.declared.Facts.{Facts}
use Rattle.mania.specs.declared.Note.{Note}
use Rattle.mania.specs.Made.{Made}
use Rattle.mania.specs.LimitedQueue.{Density}
use Rattle.mania.specs.Object.{object}
use Rattle.mania.specs.Chart.{in_walk_order}
use Rattle.mania.specs.Convert.{Walk, SongFacts, song_facts, AtObject, columns_of, beginning, meets, facts_at, walk_after, after_object, walk}
use Rattle.mania.specs.Walked.{Stop, spent_at, refused_at, on_walk}
use Rattle.mania.specs.Reached.{walk_to, reaches, Follows}
use Rattle.mania.specs.Laws.Walks.{before, walk_refused, walk_full, walk_made}
use Rattle.mania.proofs.Eleven.{kind, left, before_none, length_more}
use Rattle.chart.specs.Layout.{chart_size}

abbrev pub notes_in : Answer Stop (List (List Note)) → List (List Note)
notes_in (found nss e) = nss
notes_in (refused x e) = []

-- an answer without the first object's notes
pub without : (ns : List Note) (a : Answer Stop (List (List Note))) (nss : List (List Note)) (e : Draws) → before (ns ∷ []) a ≡ found nss e
    → (mss : List (List Note)) × (a ≡ found mss e) × (nss ≡ ns ∷ mss)
unfolding before
without ns (found mss d) nss e h = (mss, ap (λ (x : Draws). found mss x) (ap (left d) h), sym (ap notes_in h))
without ns (refused x d) nss e h = let z : ◌≡◌ {A = ℕ} 1 0 = ap kind h in absurd (omega arith)

module _ (s : SongFacts) (columns room : ℕ) where
  -- the end of `walk_to`, and how many notes there are then
  abbrev Comes : ℕ → Walk → List Object → Draws → List (List Note) → Draws → Type 0
  Comes k w os d nss e = (x : Walk) × (on (walk_to s columns k w os) d ≡ found x e) × (x.notes ≡ w.notes + length (in_walk_order nss))

  none : (i : ℕ) (w : Walk) (d : Draws) (nss : List (List Note)) (e : Draws) → on_walk (walk s columns room i w []) d ≡ found nss e
      → (on (give w) d ≡ found w e) × (w.notes ≡ w.notes + length (in_walk_order nss))
  unfolding walk play in_walk_order
  none i w d nss e h = (ap (λ (x : Draws). found w x) (ap (left d) h), sym (add-zero w.notes) ∙ ap (λ (x : List (List Note)). w.notes + length (in_walk_order x)) (ap notes_in h))

  module _ (k i : ℕ) (w : Walk) (o : Object) (os : List Object) (d : Draws) (nss : List (List Note)) (e : Draws)
      (h : on_walk (walk s columns room i w (o ∷ take k os)) d ≡ found nss e)
      (rest : (w : Walk) (d : Draws) (nss : List (List Note)) → on_walk (walk s columns room (suc i) w (take k os)) d ≡ found nss e → Comes k w os d nss e) where
    abbrev dens : Density
    dens = meets o.kind o.start w.density

    abbrev facts : Facts
    facts = facts_at s dens o

    abbrev rule : ObjectRule Made
    rule = object facts w.prev columns o

    abbrev whole : Answer Stop (List (List Note))
    whole = on_walk (walk s columns room i w (o ∷ take k os)) d

    on_from : (made : Made) (f : Draws) → on rule d ≡ found made f → (b : Bool) → ltb room (chart_size (w.notes + length made.notes)) ≡ b → Comes (suc k) w (o ∷ os) d nss e
    unfolding walk_to after_object walk_after
    on_from made f u true l = let z : ◌≡◌ {A = ℕ} 1 0 = ap kind (sym (sym (before_none whole) ∙ walk_full s columns room i w o (take k os) d made f u l []) ∙ h) in absurd (omega arith)
    on_from made f u false l =
        let t = sym (before_none whole) ∙ walk_made s columns room i w o (take k os) d made f u l [] in
        let m = without made.notes _ nss e (sym t ∙ h) in
        let r = rest (after_object facts o dens made w) f m.0 m.1 in
        (r.0, found_bind rule _ d made f u ∙ r.1, sum w.notes (length made.notes) (length (in_walk_order m.0)) r.2 (ap (λ (x : List (List Note)). length (in_walk_order x)) m.2 ∙ length_more made.notes m.0))
      where
        sum : (a b c : ℕ) {n x : ℕ} → x ≡ a + b + c → n ≡ b + c → x ≡ a + n
        sum a b c h e = omega arith

    by_object : (a : Answer ℕ Made) → on rule d ≡ a → Comes (suc k) w (o ∷ os) d nss e
    by_object (found made f) u = on_from made f u (ltb room (chart_size (w.notes + length made.notes))) refl
    by_object (refused x f) u = let z : ◌≡◌ {A = ℕ} 1 0 = ap kind (sym (sym (before_none whole) ∙ walk_refused s columns room i w o (take k os) d x f u []) ∙ h) in absurd (omega arith)

  follow : (k i : ℕ) (w : Walk) (os : List Object) (d : Draws) (nss : List (List Note)) (e : Draws) → on_walk (walk s columns room i w (take k os)) d ≡ found nss e → Comes k w os d nss e
  unfolding walk_to
  follow zero i w os d nss e h = let n = none i w d nss e h in (w, n.0, n.1)
  follow (suc k) i w [] d nss e h = let n = none i w d nss e h in (w, n.0, n.1)
  follow (suc k) i w (o ∷ os) d nss e h = by_object k i w o os d nss e h (λ w d nss. follow k (suc i) w os d nss e) (on (object (facts_at s (meets o.kind o.start w.density) o) w.prev columns o) d) refl

pub follows : (s : Song) (room k a n : ℕ) (r : Random) (nss : List (List Note))
    → run (walk (song_facts s) (columns_of s) room 0 beginning (take k s.objects)) (values a r) ≡ ended nss n
    → Follows s k a n r (length (in_walk_order nss))
unfolding placed taken reaches beginning
follows s room k a n r nss u =
    let m = walk (song_facts s) (columns_of s) room 0 beginning (take k s.objects) in
    let most = max 0 (longest m (values a r)) in
    let d : Draws = tallied a 0 r in
    let e : Draws = tallied (a - n) most (steps n r) in
    let h : on_walk m d ≡ found nss e = play_run spent_at refused_at m a 0 r ∙ ap (placed spent_at refused_at a most r) u in
    let c = follow (song_facts s) (columns_of s) room k 0 beginning s.objects d nss e h in
    let small : n ≤ a = subst (λ (o : Outcome ℕ AtObject (List (List Note))). taken o ≤ a) u (done_le m r a (subst Done (sym u) tt)) in
    record {
      to = c.0;
      after = (found_run (λ p. spent_number) number (reaches s k) d c.0 e c.1).0 ∙ ap (λ (j : ℕ). ended c.0 j) (sub-sub_self small);
      made = c.2 ∙ zero-add _;
    }
