-- The walk, one object at a time: for a loop over the objects that keeps the notes made so far; a job, from how its walk ended; and bytes put at a
-- buffer's start. Assumes nothing.
use Rattle.std.specs.Prelude.{◌≡◌, ℕ, suc, ◌+◌, ◌-◌, Bool, true, false, ltb, length}
use Rattle.std.proofs.Math.Path.{refl, ap, ap₂}
use Rattle.std.proofs.Common.{sym, ◌∙◌, zero-add, arith, length-append}
use Rattle.std.proofs.Math.Nat.{zero-max}
use mathlib.Core.List.{List, [], ◌∷◌, ◌++◌, map, append_assoc, append-nil}
use Rattle.std.proofs.lemmas.List.{length-map}
use Rattle.rules.specs.Numbers as Numbers
use Rattle.rules.specs.Rule.{give, label, ended}
use Rattle.rules.specs.Refusal.{number, spent_number, ObjectRule}
use Rattle.random.specs.Generator.{seeded}
use Rattle.random.specs.Play.{Answer, found, refused, tallied, on, play}
use Rattle.random.specs.declared.Draws.{Draws}
use Rattle.random.specs.Laws.Play as Play
use Rattle.random.specs.Laws.Play.{follow, bind_on}
use Rattle.random.specs.Laws.On.{found_bind, refused_bind}
use Rattle.random.specs.Laws.Allowance.{found_run, refused_run}
use Rattle.chart.specs.Layout.{chart_size}
use Rattle.chart.specs.Bytes.{splice}
use Rattle.mania.specs.declared.Note.{Note}
use Rattle.model.specs.declared.Object.{Object}
use Rattle.model.specs.Song.{Song}
use Rattle.mania.specs.declared.Facts.{Facts}
use Rattle.mania.specs.Made.{Made}
use Rattle.mania.specs.LimitedQueue.{Density}
use Rattle.mania.specs.Object.{object}
use Rattle.chart.specs.declared.Note as Patterns
use Rattle.mania.specs.Chart.{pattern_of, patterns_from, in_walk_order, written}
use Rattle.mania.specs.Convert.{Walk, SongFacts, at, seed, columns_of, meets, facts_at, after_object, object_in, walk, convert}
use Rattle.mania.specs.Walked.{Stop, stop, spent_at, refused_at, on_walk}
use Rattle.mania.specs.Job.{Job, ending, refusing, under, ledger_under, job}

-- ---- an object's rule in a walk

module _ {A : Type 0} (i : ℕ) (m : ObjectRule A) (d : Draws) where
  found_at : (a : A) (e : Draws) → on m d ≡ found a e → on_walk (label (λ p. i) (at i) m) d ≡ found a e
  found_at a e h = Play.found_label (λ p. spent_number) number spent_at refused_at (λ p. i) (at i) (stop i) (λ p. refl) (λ r. refl) m d a e h

  refused_at_law : (r : ℕ) (e : Draws) → on m d ≡ refused r e → on_walk (label (λ p. i) (at i) m) d ≡ refused (stop i r) e
  refused_at_law r e h = Play.refused_label (λ p. spent_number) number spent_at refused_at (λ p. i) (at i) (stop i) (λ p. refl) (λ r. refl) m d r e h

-- an answer with the notes of the objects before put in front
unfoldable pub before : List (List Note) → Answer Stop (List (List Note)) → Answer Stop (List (List Note))
before nss (found mss d) = found (nss ++ mss) d
before nss (refused r d) = refused r d

module _ (s : SongFacts) (columns room i : ℕ) (w : Walk) where
  -- no object is left
  pub walk_none : (nss : List (List Note)) (d : Draws) → before nss (on_walk (walk s columns room i w []) d) ≡ found nss d
  unfolding before walk play
  walk_none nss d = ap (λ (x : List (List Note)). found x d) (append-nil nss)

  module _ (o : Object) (os : List Object) (d : Draws) where
    -- the density and the facts at the object
    abbrev dens : Density
    dens = meets o.kind o.start w.density

    abbrev facts : Facts
    facts = facts_at s dens o

    -- whether the notes made so far, and so many more, are too long for the buffer
    abbrev too_long : Made → Bool
    too_long made = ltb room (chart_size (w.notes + length made.notes))

    in_room : (made : Made) (e : Draws) → on (object facts w.prev columns o) d ≡ found made e → too_long made ≡ false → on (object_in columns room facts w o) d ≡ found made e
    unfolding object_in play
    in_room made e h f = found_bind (object facts w.prev columns o) _ d made e h ∙ rw f

    out_of_room : (made : Made) (e : Draws) → on (object facts w.prev columns o) d ≡ found made e → too_long made ≡ true → on (object_in columns room facts w o) d ≡ refused Numbers.chart_too_short e
    unfolding object_in play
    out_of_room made e h f = found_bind (object facts w.prev columns o) _ d made e h ∙ rw f

    no_object : (r : ℕ) (e : Draws) → on (object facts w.prev columns o) d ≡ refused r e → on (object_in columns room facts w o) d ≡ refused r e
    unfolding object_in
    no_object r e h = refused_bind (object facts w.prev columns o) _ d r e h

    stopped : (r : ℕ) (e : Draws) → on (object_in columns room facts w o) d ≡ refused r e → (nss : List (List Note))
        → before nss (on_walk (walk s columns room i w (o ∷ os)) d) ≡ refused (stop i r) e
    unfolding before walk
    stopped r e h nss =
        let m = object_in columns room facts w o in
        ap (before nss) (Play.refused_bind spent_at refused_at (label (λ p. i) (at i) m) _ d (stop i r) e (refused_at_law i m d r e h))

    -- the object is refused: so is the walk, at its index
    pub walk_refused : (r : ℕ) (e : Draws) → on (object facts w.prev columns o) d ≡ refused r e → (nss : List (List Note))
        → before nss (on_walk (walk s columns room i w (o ∷ os)) d) ≡ refused (stop i r) e
    walk_refused r e h nss = stopped r e (no_object r e h) nss

    -- its notes are too long for the buffer: 11
    pub walk_full : (made : Made) (e : Draws) → on (object facts w.prev columns o) d ≡ found made e → too_long made ≡ true → (nss : List (List Note))
        → before nss (on_walk (walk s columns room i w (o ∷ os)) d) ≡ refused (stop i Numbers.chart_too_short) e
    walk_full made e h f nss = stopped 11 e (out_of_room made e h f) nss

    rest_before : (nss : List (List Note)) (ns : List Note) (a : Answer Stop (List (List Note)))
        → before nss (follow spent_at refused_at a (λ rest. give (ns ∷ rest))) ≡ before (nss ++ ns ∷ []) a
    unfolding before play
    rest_before nss ns (found mss e) = ap (λ (x : List (List Note)). found x e) (sym (append_assoc nss (ns ∷ []) mss))
    rest_before nss ns (refused r e) = refl

    -- it made its notes: the walk goes on after it
    pub walk_made : (made : Made) (e : Draws) → on (object facts w.prev columns o) d ≡ found made e → too_long made ≡ false → (nss : List (List Note))
        → before nss (on_walk (walk s columns room i w (o ∷ os)) d)
        ≡ before (nss ++ made.notes ∷ []) (on_walk (walk s columns room (suc i) (after_object facts o dens made w) os) e)
    unfolding walk
    walk_made made e h f nss =
        let m = object_in columns room facts w o in
        let next = walk s columns room (suc i) (after_object facts o dens made w) os in
        ap (before nss) (Play.found_bind spent_at refused_at (label (λ p. i) (at i) m) _ d made e (found_at i m d made e (in_room made e h f)))
        ∙ ap (before nss) (bind_on spent_at refused_at (λ rest. give (made.notes ∷ rest)) next e)
        ∙ rest_before nss made.notes (on_walk next e)

-- ---- a job, from what its rules come to from the seed's state

module _ (s : Song) (buffer : List ℕ) (a : ℕ) where
  abbrev from_seed : Draws
  from_seed = tallied a 0 (seeded (seed s.settings))

  pub job_made : (nss : List (List Note)) (e : Draws) → on_walk (convert s (length buffer)) from_seed ≡ found nss e
      → job s buffer a ≡ ending (columns_of s) buffer e.tally.longest (ended nss (a - e.tally.left))
  unfolding job under ledger_under
  job_made nss e h =
      let r = found_run spent_at refused_at (convert s (length buffer)) from_seed nss e h in
      ap₂ {C = Job} (ending (columns_of s) buffer) (sym (r.2 ∙ zero-max _)) r.0

  pub job_stopped : (x : Stop) (e : Draws) → on_walk (convert s (length buffer)) from_seed ≡ refused x e
      → job s buffer a ≡ refusing x.number x.object (a - e.tally.left) buffer
  unfolding job under ending
  job_stopped x e h =
      (refused_run spent_at refused_at (convert s (length buffer)) from_seed (ending (columns_of s) buffer _) (λ y n. refusing y.number y.object n buffer) (λ i n. refl) (λ r n. refl) x e h).0

pub splice_start : (s v : List ℕ) → splice s 0 v ≡ written v s
unfolding splice written
splice_start s v = rw zero-add

-- ---- the notes of a chart in walk order

pub length_patterns : (i : ℕ) (nss : List (List Note)) → length (patterns_from i nss) ≡ length (in_walk_order nss)
unfolding patterns_from in_walk_order
length_patterns i [] = refl
length_patterns i (ns ∷ nss) =
    length-append (map (pattern_of i) ns) (patterns_from (suc i) nss)
    ∙ ap₂ (λ (a b : ℕ). a + b) (length-map ns (pattern_of i)) (length_patterns (suc i) nss)
    ∙ sym (length-append ns (in_walk_order nss))

-- those of one object more
pub patterns_more : (i : ℕ) (nss : List (List Note)) (ns : List Note) → patterns_from i (nss ++ ns ∷ []) ≡ patterns_from i nss ++ map (pattern_of (i + length nss)) ns
unfolding patterns_from
patterns_more i [] ns = append-nil (map (pattern_of i) ns) ∙ ap (λ (k : ℕ). map (pattern_of k) ns) (omega arith)
patterns_more i (ms ∷ nss) ns =
    let next : suc i + length nss ≡ i + suc (length nss) = omega arith in
    ap (λ (t : List Patterns.Note). map (pattern_of i) ms ++ t) (patterns_more (suc i) nss ns ∙ rw next)
    ∙ sym (append_assoc (map (pattern_of i) ms) (patterns_from (suc i) nss) (map (pattern_of (i + suc (length nss))) ns))
