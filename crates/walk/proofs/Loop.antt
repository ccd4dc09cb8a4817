-- The loop over the objects: what holds at its head. Assumes nothing.
use mathlib.Core.Path.{◌≡◌, refl, sym, ap, ◌∙◌, subst}
use Prim.Native.Nat.{ℕ, suc, ◌+◌, ◌-◌, ◌*◌, ◌^◌, ◌≤◌, ◌<◌}
use native.Mathlib.Nat.{add-zero, sub-zero}
use native.Mathlib.Numerals.{add-one}
use native.Mathlib.Omega.{arith}
use mathlib.Core.Bool.{true, false}
use mathlib.Core.List.{List, [], ◌∷◌, ◌++◌, map, append-nil, append_assoc}
use lib.Dec.{ltb}
use lib.Pow.{pow_pos}
use lib.ListN.{length, take, drop, length-append, length-map, take-append-drop}
use borrow.Author.Tests.{ltb-false}
use Rattle.model.specs.Limits.{most_notes, most_entries}
use Rattle.random.specs.Play.{Answer, found, refused, on}
use Rattle.random.specs.declared.Draws.{Draws}
use Rattle.model.specs.declared.Object.{Object}
use Rattle.rules.specs.Each.{Each}
use Rattle.record.specs.Layout.{longest}
use Rattle.record.specs.Refusal.{entries}
use Rattle.record.specs.Object.{read_object, object_end, objects}
use Rattle.record.specs.Laws.Objects.{objects_cons}
use Rattle.chart.specs.Layout.{chart_size, note_size}
use Rattle.chart.specs.Bytes.{splice}
use Rattle.chart.specs.Chart as Bytes
use Rattle.chart.specs.Laws.Bytes.{splice_next}
use Rattle.chart.specs.Laws.Notes.{length_body, body_append}
use Rattle.mania.specs.declared.Note.{Note}
use Rattle.mania.specs.declared.Facts.{Facts}
use Rattle.mania.specs.LimitedQueue as Queue
use Rattle.mania.specs.Object.{object}
use Rattle.chart.specs.declared.Version.TheVariants.{Two}
use Rattle.mania.specs.Chart.{body, pattern_of, patterns_from, in_walk_order}
use Rattle.mania.specs.Convert.{facts_at, walk_after, after_object, beginning}
use Rattle.mania.specs.Convert as Convert
use Rattle.mania.specs.Walked.{Stop, stop, on_walk}
use Rattle.mania.specs.Range.{InRange}
use Rattle.mania.specs.Laws.Walks.{before, walk_none, walk_refused, walk_full, walk_made, length_patterns, patterns_more}
use Rattle.walk.specs.declared.Song.{Song}
use Rattle.walk.specs.declared.InForce.{InForce}
use Rattle.walk.specs.declared.Walk.{Walk}
use Rattle.walk.specs.Kept.{walk_of}
use Rattle.walk.specs.Steps.{given_facts, InForceAt, facts_by, facts_in, density_at, object_rule, Sound, Next, Stops, refuses, full, rule, Written}

-- ---- notes in walk order, and their points

order_more : (nss : List (List Note)) (ns : List Note) → in_walk_order (nss ++ ns ∷ []) ≡ in_walk_order nss ++ ns
unfolding in_walk_order
order_more [] ns = append-nil ns
order_more (ms ∷ nss) ns = ap (λ (x : List Note). ms ++ x) (order_more nss ns) ∙ sym (append_assoc ms (in_walk_order nss) ns)

-- the bytes of the notes of all objects so far
abbrev pub all_bytes : List (List Note) → List ℕ
all_bytes nss = Bytes.body Two (patterns_from 0 nss)

length_all : (nss : List (List Note)) → length (all_bytes nss) ≡ note_size * length (in_walk_order nss)
length_all nss = length_body Two (patterns_from 0 nss) ∙ ap (λ (n : ℕ). note_size * n) (length_patterns 0 nss)

length_bytes : (i : ℕ) (ns : List Note) → length (body i ns) ≡ note_size * length ns
unfolding body
length_bytes i ns = length_body Two (map (pattern_of i) ns) ∙ ap (λ (n : ℕ). note_size * n) (length-map ns (pattern_of i))

bytes_more : (i : ℕ) (nss : List (List Note)) (ns : List Note) → length nss ≡ i → all_bytes (nss ++ ns ∷ []) ≡ all_bytes nss ++ body i ns
unfolding body
bytes_more i nss ns e =
    let at : 0 + length nss ≡ i = omega (arith, e) in
    ap (Bytes.body Two) (patterns_more 0 nss ns) ∙ rw at (body_append Two (patterns_from 0 nss) (map (pattern_of i) ns))

none_written : (s : List ℕ) (i : ℕ) → s ≡ splice s i (all_bytes [])
unfolding splice patterns_from Bytes.body
none_written s i = sym (ap (λ (k : ℕ). take i s ++ drop k s) (add-zero i) ∙ take-append-drop i s)

-- ---- the loop's head

-- before object i: the notes of the objects passed, and the rule of the rest
pub record At (points part entry chart : List ℕ) (g : Song) (start count : ℕ) (d : Draws) (w : Walk) (here : ℕ) (rest : Draws) (i : ℕ) : Type 0 where
  pub nss : List (List Note)
  pub passed : i ≤ count
  pub says : before nss (on_walk (Convert.walk (given_facts points g) g.columns (length entry) i (walk_of w) (objects part here (count - i))) rest)
      ≡ rule points part g (length entry) start count d
  pub lists : length nss ≡ i
  pub written : chart ≡ splice entry 8 (all_bytes nss)
  pub number : w.notes ≡ length (in_walk_order nss)
  pub few : w.notes ≤ most_notes * i
  pub room : chart_size w.notes ≤ length entry
  pub range : Each InRange (objects part here (count - i))
  pub sound : Sound g.columns w
  pub near : here ≤ 7 + longest * i

before_none : (a : Answer Stop (List (List Note))) → before [] a ≡ a
unfolding before
before_none (found mss d) = refl
before_none (refused r d) = refl

module _ (points part entry : List ℕ) (g : Song) (start count : ℕ) (d : Draws) where
  pub at_start : (w : Walk) → walk_of w ≡ beginning → Sound g.columns w → start ≤ 7 → 8 ≤ length entry → Each InRange (objects part start count)
      → At points part entry entry g start count d w start d 0
  unfolding in_walk_order walk_of beginning
  at_start w e s n r h =
      let zero_notes : w.notes ≡ 0 = ap (λ (x : Convert.Walk). x.notes) e in
      record {
        nss = [];
        passed = omega arith;
        says =
            before_none _
            ∙ ap (λ (x : Convert.Walk). on_walk (Convert.walk (given_facts points g) g.columns (length entry) 0 x (objects part start (count - 0))) d) e
            ∙ ap (λ (k : ℕ). rule points part g (length entry) start k d) (sub-zero count);
        lists = refl;
        written = none_written entry 8;
        number = zero_notes;
        few = omega arith;
        room = omega arith;
        range = subst (λ (k : ℕ). Each InRange (objects part start k)) (sym (sub-zero count)) h;
        sound = s;
        near = omega arith;
      }

  module _ (chart : List ℕ) (w : Walk) (here : ℕ) (rest : Draws) (i : ℕ) (l : i < count) (a : At points part entry chart g start count d w here rest i) where
    abbrev o : Object
    o = read_object part here

    abbrev os : List Object
    os = objects part (object_end part here) (count - (i + 1))

    split : objects part here (count - i) ≡ o ∷ os
    split =
        let p : 0 < count - i = omega arith in
        let q : count - i - 1 ≡ count - (i + 1) = omega arith in
        objects_cons part here (count - i) p ∙ ap (λ (k : ℕ). o ∷ objects part (object_end part here) k) q

    ranges : Each InRange (o ∷ os)
    ranges = subst (Each InRange) split a.range

    pub in_range_law : InRange o
    in_range_law = ranges.0

    from_here : before a.nss (on_walk (Convert.walk (given_facts points g) g.columns (length entry) i (walk_of w) (o ∷ os)) rest)
        ≡ rule points part g (length entry) start count d
    from_here =
        ap (λ (x : List Object). before a.nss (on_walk (Convert.walk (given_facts points g) g.columns (length entry) i (walk_of w) x) rest)) (sym split)
        ∙ a.says

    -- the facts are the song's
    module _ (c : InForce) (F : facts_in g c w o ≡ facts_at (given_facts points g) (density_at w o) o) where
      ruled : on (object (facts_at (given_facts points g) (density_at w o) o) w.prev g.columns o) rest ≡ object_rule g c w o rest
      ruled = ap (λ (f : Facts). on (object f w.prev g.columns o) rest) (sym F)

      pub at_refused : (n : ℕ) (e : Draws) → length chart ≡ length entry → Stops chart g c w o rest n e → rule points part g (length entry) start count d ≡ refused (stop i n) e
      unfolding walk_of
      at_refused n e z (refuses h) = sym from_here ∙ walk_refused (given_facts points g) g.columns (length entry) i (walk_of w) o os rest n e (ruled ∙ h) a.nss
      at_refused n e z (full made h t k) =
          sym from_here
          ∙ walk_full (given_facts points g) g.columns (length entry) i (walk_of w) o os rest made e (ruled ∙ h) (subst (λ (f : ℕ). ltb f (chart_size (w.notes + length made.notes)) ≡ true) z t) a.nss
          ∙ ap (λ (x : ℕ). refused (stop i x) e) (sym k)

      pub at_next : (exit : List ℕ) (x : Walk) (next : ℕ) (e : Draws) → length chart ≡ length entry → Next chart exit i g c w o rest x e
          → next ≡ object_end part here → next ≤ here + longest → At points part entry exit g start count d x next e (i + 1)
      unfolding walk_of walk_after after_object
      at_next exit x next e z k at far =
          let ns = k.made.notes in
          let room : ltb (length entry) (chart_size (w.notes + length ns)) ≡ false = subst (λ (f : ℕ). ltb f (chart_size (w.notes + length ns)) ≡ false) z k.room in
          let notes : x.notes ≡ w.notes + length ns = ap (λ (y : Convert.Walk). y.notes) k.after in
          let sum : length (in_walk_order (a.nss ++ ns ∷ [])) ≡ length (in_walk_order a.nss) + length ns =
          ap length (order_more a.nss ns) ∙ length-append (in_walk_order a.nss) ns in
          let fits : chart_size (w.notes + length ns) ≤ length entry = ltb-false (length entry) (chart_size (w.notes + length ns)) room in
          record {
            nss = a.nss ++ ns ∷ [];
            passed = omega arith;
            says =
                ap (λ (j : ℕ). before (a.nss ++ ns ∷ []) (on_walk (Convert.walk (given_facts points g) g.columns (length entry) j (walk_of x) (objects part next (count - (i + 1)))) e)) (add-one i)
                ∙ ap (λ (p : ℕ). before (a.nss ++ ns ∷ []) (on_walk (Convert.walk (given_facts points g) g.columns (length entry) (suc i) (walk_of x) (objects part p (count - (i + 1)))) e)) at
                ∙ ap (λ (y : Convert.Walk). before (a.nss ++ ns ∷ []) (on_walk (Convert.walk (given_facts points g) g.columns (length entry) (suc i) y os) e)) (k.after ∙ ap (λ (f : Facts). after_object f o (density_at w o) k.made (walk_of w)) F)
                ∙ sym (walk_made (given_facts points g) g.columns (length entry) i (walk_of w) o os rest k.made e (ruled ∙ k.says) room a.nss)
                ∙ from_here;
            lists = length-append a.nss (ns ∷ []) ∙ omega (arith, a.lists);
            written =
                k.written
                ∙ ap (λ (s : List ℕ). splice s (chart_size w.notes) (body i ns)) a.written
                ∙ splice_next entry 8 (all_bytes a.nss) (chart_size w.notes) (body i ns)
                (ap (λ (n : ℕ). 8 + n) (ap (λ (n : ℕ). note_size * n) a.number ∙ sym (length_all a.nss)))
                (omega (arith, length_bytes i ns))
                ∙ ap (splice entry 8) (sym (bytes_more i a.nss ns a.lists));
            number = omega (arith, notes, sum, a.number);
            few = omega (arith, notes, k.few, a.few);
            room = omega (arith, notes, fits);
            range = subst (λ (p : ℕ). Each InRange (objects part p (count - (i + 1)))) (sym at) ranges.1;
            sound = k.sound;
            near = omega (arith, far, a.near);
          }

  pub at_end : (chart : List ℕ) (w : Walk) (here : ℕ) (rest : Draws) (i : ℕ) → count ≤ i → count ≤ most_entries → At points part entry chart g start count d w here rest i
      → Written (rule points part g (length entry) start count d) entry chart w.notes rest
  unfolding objects entries
  at_end chart w here rest i h l a =
      let none : count - i ≡ 0 = omega (arith, a.passed) in
      record {
        nss = a.nss;
        says =
            sym a.says
            ∙ ap (λ (k : ℕ). before a.nss (on_walk (Convert.walk (given_facts points g) g.columns (length entry) i (walk_of w) (objects part here k)) rest)) none
            ∙ walk_none (given_facts points g) g.columns (length entry) i (walk_of w) a.nss rest;
        written = a.written;
        number = a.number;
        few = omega (arith, a.few, a.passed);
        room = a.room;
      }

-- the facts, from the points in force
pub facts_of_law : (points : List ℕ) (g : Song) (c : InForce) (q : Queue.Density) (o : Object) → InForceAt points g o.start c
    → facts_by g c q ≡ facts_at (given_facts points g) q o
unfolding facts_at
facts_of_law points g c q o f = rw (f.beat, f.velocity, f.kiai)

-- the walk begins with an empty pattern
pub begun : (columns : ℕ) (w : Walk) → walk_of w ≡ beginning → 1 ≤ columns → Sound columns w
unfolding walk_of beginning
begun columns w e l =
    record {
      mask = subst (λ (x : Convert.Walk). x.prev.mask < 2 ^ columns) (sym e) (pow_pos columns);
      last = subst (λ (x : Convert.Walk). x.prev.last < columns) (sym e) l;
    }
