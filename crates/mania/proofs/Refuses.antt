-- Where the condition of 8 or of 11 holds, a song's job is refused so, at that object and after those draws. Assumes nothing.
use mathlib.Core.Path.{◌≡◌, refl, sym, ap, ap₂, ◌∙◌, subst}
use Prim.Native.Nat.{ℕ, zero, suc, ◌+◌, ◌-◌, ◌≤◌, ◌<◌, max}
use native.Mathlib.Nat.{add-zero, zero-add}
use native.Mathlib.Omega.{arith}
use mathlib.Core.Bool.{Bool, true, false}
use mathlib.Core.List.{List, [], ◌∷◌}
use lib.Arith.{sub-sub_self}
use lib.Dec.{ltb}
use lib.ListN.{length, take}
use borrow.Author.Tests.{lt-ltb, le-ltb, ltb-false}
use Rattle.rules.specs.Rule.{Rule, Outcome, ended, run, taken, Done}
use Rattle.rules.specs.Ledger.{longest}
use Rattle.rules.specs.Numbers as Numbers
use Rattle.rules.specs.Refusal.{ObjectRule}
use Rattle.random.specs.Generator.{values, seeded, steps}
use Rattle.random.specs.Play.{Answer, found, refused, on, play, tallied}
use Rattle.random.specs.declared.Random.{Random}
use Rattle.random.specs.declared.Draws.{Draws}
use Rattle.random.specs.Laws.Play.{placed, play_run}
use Rattle.random.specs.Laws.Allowance.{done_le}
use Rattle.model.specs.Song.{Song}
use Rattle.model.specs.declared.Object.{Object}
use Rattle.mania.specs.declared.Facts.{Facts}
use Rattle.mania.specs.declared.Note.{Note}
use Rattle.mania.specs.Made.{Made}
use Rattle.mania.specs.LimitedQueue.{Density}
use Rattle.mania.specs.Object.{object}
use Rattle.mania.specs.Chart.{in_walk_order}
use Rattle.mania.specs.Convert.{Walk, SongFacts, AtObject, seed, columns_of, song_facts, beginning, meets, facts_at, walk_after, after_object, walk, convert}
use Rattle.mania.specs.Walked.{Stop, stop, spent_at, refused_at, on_walk}
use Rattle.mania.specs.Refusals.{LateAt, TooLate, TooLong}
use Rattle.mania.specs.Job.{refusing, job}
use Rattle.mania.specs.Laws.Walks.{before, walk_refused, walk_full, walk_made, job_stopped}
use Rattle.mania.proofs.Conditions.{late_refuses}
use Rattle.mania.proofs.Eleven.{kind, left, before_none, length_more, none_made}
use Rattle.mania.proofs.Follows.{notes_in, without}
use Rattle.mania.proofs.Reach.{late_same}
use Rattle.chart.specs.Layout.{header_size, chart_size}

-- ---- the walk

-- a walk over no objects
none_left : (s : SongFacts) (columns room i : ℕ) (w : Walk) (d : Draws) (nss : List (List Note)) (e : Draws)
    → on_walk (walk s columns room i w []) d ≡ found nss e → (nss ≡ []) × (d ≡ e)
none_left s columns room i w d nss e h =
    let t = sym (none_made s columns room i w d) ∙ h in (sym (ap notes_in t), ap (left d) t)

module _ (s : SongFacts) (columns : ℕ) (i : ℕ) (w : Walk) (o : Object) (d : Draws) where
  abbrev dens : Density
  dens = meets o.kind o.start w.density

  abbrev facts : Facts
  facts = facts_at s dens o

  abbrev rule : ObjectRule Made
  rule = object facts w.prev columns o

  -- a walk that ended went on after its first object
  refused_not : (room : ℕ) (os : List Object) (nss : List (List Note)) (e : Draws) → on_walk (walk s columns room i w (o ∷ os)) d ≡ found nss e
      → (x : ℕ) (f : Draws) → on rule d ≡ refused x f → ⊥
  refused_not room os nss e h x f u =
      let whole = on_walk (walk s columns room i w (o ∷ os)) d in
      let z : ◌≡◌ {A = ℕ} 1 0 = ap kind (sym (sym (before_none whole) ∙ walk_refused s columns room i w o os d x f u []) ∙ h) in
      omega arith

  record GoesOn (room : ℕ) (os : List Object) (made : Made) (f : Draws) (nss : List (List Note)) (e : Draws) : Type 0 where
    fits : ltb room (chart_size (w.notes + length made.notes)) ≡ false
    rest : List (List Note)
    later : on_walk (walk s columns room (suc i) (after_object facts o dens made w) os) f ≡ found rest e
    all : nss ≡ made.notes ∷ rest

  goes_on : (room : ℕ) (os : List Object) (made : Made) (f : Draws) → on rule d ≡ found made f → (nss : List (List Note)) (e : Draws)
      → on_walk (walk s columns room i w (o ∷ os)) d ≡ found nss e → GoesOn room os made f nss e
  goes_on room os made f u nss e h = go (ltb room (chart_size (w.notes + length made.notes))) refl
    where
      go : (b : Bool) → ltb room (chart_size (w.notes + length made.notes)) ≡ b → GoesOn room os made f nss e
      go true l =
          let whole = on_walk (walk s columns room i w (o ∷ os)) d in
          let z : ◌≡◌ {A = ℕ} 1 0 = ap kind (sym (sym (before_none whole) ∙ walk_full s columns room i w o os d made f u l []) ∙ h) in
          absurd (omega arith)
      go false l =
          let whole = on_walk (walk s columns room i w (o ∷ os)) d in
          let t = sym (before_none whole) ∙ walk_made s columns room i w o os d made f u l [] in
          let m = without made.notes _ nss e (sym t ∙ h) in
          record { fits = l; rest = m.0; later = m.1; all = m.2 }

  -- a refusal after it is the walk's
  passes_on : (room : ℕ) (os : List Object) (made : Made) (f : Draws) → on rule d ≡ found made f → ltb room (chart_size (w.notes + length made.notes)) ≡ false
      → (x : Stop) (e : Draws) → on_walk (walk s columns room (suc i) (after_object facts o dens made w) os) f ≡ refused x e
      → on_walk (walk s columns room i w (o ∷ os)) d ≡ refused x e
  unfolding before
  passes_on room os made f u l x e h =
      sym (before_none (on_walk (walk s columns room i w (o ∷ os)) d)) ∙ walk_made s columns room i w o os d made f u l [] ∙ ap (before (made.notes ∷ [])) h

next : (i k : ℕ) → suc i + k ≡ i + suc k
next i k = omega arith

module _ (s : SongFacts) (columns room : ℕ) where
  -- 8: the objects before the k-th made their notes, and it is a slider that ends too late
  late_walk : (k i : ℕ) (w : Walk) (os : List Object) (d : Draws) (nss : List (List Note)) (e : Draws)
      → on_walk (walk s columns room i w (take k os)) d ≡ found nss e → LateAt s os k
      → on_walk (walk s columns room i w os) d ≡ refused (stop (i + k) 8) e
  unfolding LateAt
  late_walk zero i w [] d nss e h l = absurd l
  late_walk zero i w (o ∷ os) d nss e h l =
      let same = (none_left s columns room i w d nss e h).1 in
      let u = late_refuses (facts s columns i w o d) w.prev columns o (late_same s _ (dens s columns i w o d) o o.kind l) d in
      sym (before_none (on_walk (walk s columns room i w (o ∷ os)) d)) ∙ walk_refused s columns room i w o os d 8 d u []
      ∙ ap₂ {C = Answer Stop (List (List Note))} (λ (j : ℕ) (x : Draws). refused (stop j 8) x) (sym (add-zero i)) same
  late_walk (suc k) i w [] d nss e h l = absurd l
  late_walk (suc k) i w (o ∷ os) d nss e h l = by_object (on (rule s columns i w o d) d) refl (late_walk k)
    where
      by_object : (a : Answer ℕ Made) → on (rule s columns i w o d) d ≡ a
          → ((i : ℕ) (w : Walk) (os : List Object) (d : Draws) (nss : List (List Note)) (e : Draws) → on_walk (walk s columns room i w (take k os)) d ≡ found nss e → LateAt s os k → on_walk (walk s columns room i w os) d ≡ refused (stop (i + k) 8) e)
          → on_walk (walk s columns room i w (o ∷ os)) d ≡ refused (stop (i + suc k) 8) e
      by_object (refused x f) u go = absurd (refused_not s columns i w o d room (take k os) nss e h x f u)
      by_object (found made f) u go =
          let g = goes_on s columns i w o d room (take k os) made f u nss e h in
          passes_on s columns i w o d room os made f u g.fits (stop (i + suc k) 8) e
          (go (suc i) _ os f g.rest e g.later l ∙ ap (λ (j : ℕ). refused (stop j 8) e) (next i k))

  -- 11: the notes of the objects before the k-th fit, and with the k-th's they do not
  abbrev Full : ℕ → Type 0
  Full k = (i : ℕ) (w : Walk) (os : List Object) (d : Draws) (prior : List (List Note)) (f : Draws) (wide : ℕ) (nss : List (List Note)) (e : Draws)
      → chart_size w.notes ≤ room → on_walk (walk s columns room i w (take k os)) d ≡ found prior f
      → on_walk (walk s columns wide i w (take (suc k) os)) d ≡ found nss e → room < chart_size (w.notes + length (in_walk_order nss))
      → on_walk (walk s columns room i w os) d ≡ refused (stop (i + k) 11) e

  -- without an object nothing is added
  no_object : (i : ℕ) (w : Walk) (d : Draws) (wide : ℕ) (nss : List (List Note)) (e : Draws) → chart_size w.notes ≤ room
      → on_walk (walk s columns wide i w []) d ≡ found nss e → room < chart_size (w.notes + length (in_walk_order nss)) → ⊥
  unfolding in_walk_order
  no_object i w d wide nss e fit h l =
      let z : room < chart_size (w.notes + 0) = subst (λ (x : List (List Note)). room < chart_size (w.notes + length (in_walk_order x))) (none_left s columns wide i w d nss e h).0 l in
      none w.notes fit z
    where
      none : (n : ℕ) → chart_size n ≤ room → room < chart_size (n + 0) → ⊥
      none n h l = omega arith

  full_walk : (k : ℕ) → Full k
  unfolding in_walk_order after_object walk_after
  full_walk zero i w [] d prior f wide nss e fit h g l = absurd (no_object i w d wide nss e fit g l)
  full_walk zero i w (o ∷ os) d prior f wide nss e fit h g l = by_object (on (rule s columns i w o d) d) refl
    where
      by_object : (a : Answer ℕ Made) → on (rule s columns i w o d) d ≡ a → on_walk (walk s columns room i w (o ∷ os)) d ≡ refused (stop (i + 0) 11) e
      by_object (refused x f) u = absurd (refused_not s columns i w o d wide [] nss e g x f u)
      by_object (found made f) u =
          let more = goes_on s columns i w o d wide [] made f u nss e g in
          let last = none_left s columns wide (suc i) _ f more.rest e more.later in
          let size : length (in_walk_order nss) ≡ length made.notes = ap (λ (x : List (List Note)). length (in_walk_order x)) (more.all ∙ ap (λ (x : List (List Note)). made.notes ∷ x) last.0) ∙ length_more made.notes [] ∙ add-zero (length made.notes) in
          sym (before_none (on_walk (walk s columns room i w (o ∷ os)) d))
          ∙ walk_full s columns room i w o os d made f u (lt-ltb room _ (subst (λ (n : ℕ). room < chart_size (w.notes + n)) size l)) []
          ∙ ap₂ {C = Answer Stop (List (List Note))} (λ (j : ℕ) (x : Draws). refused (stop j 11) x) (sym (add-zero i)) last.1
  full_walk (suc k) i w [] d prior f wide nss e fit h g l = absurd (no_object i w d wide nss e fit g l)
  full_walk (suc k) i w (o ∷ os) d prior f wide nss e fit h g l = by_object (on (rule s columns i w o d) d) refl (full_walk k)
    where
      same : (a b c : ℕ) {n : ℕ} → n ≡ b + c → room < chart_size (a + n) → room < chart_size (a + b + c)
      same a b c e h = omega arith

      by_object : (a : Answer ℕ Made) → on (rule s columns i w o d) d ≡ a → Full k → on_walk (walk s columns room i w (o ∷ os)) d ≡ refused (stop (i + suc k) 11) e
      by_object (refused x x') u go = absurd (refused_not s columns i w o d wide (take (suc k) os) nss e g x x' u)
      by_object (found made m) u go =
          let here = goes_on s columns i w o d room (take k os) made m u prior f h in
          let more = goes_on s columns i w o d wide (take (suc k) os) made m u nss e g in
          let size = ap (λ (x : List (List Note)). length (in_walk_order x)) more.all ∙ length_more made.notes more.rest in
          passes_on s columns i w o d room os made m u here.fits (stop (i + suc k) 11) e
          (go (suc i) (after_object (facts s columns i w o d) o (dens s columns i w o d) made w) os m here.rest f wide more.rest e
          (ltb-false room _ here.fits) here.later more.later (same w.notes (length made.notes) (length (in_walk_order more.rest)) size l)
          ∙ ap (λ (j : ℕ). refused (stop j 11) e) (next i k))

-- ---- the job

module _ (s : Song) (buffer : List ℕ) (a : ℕ) where
  abbrev st : Random
  st = seeded (seed s.settings)

  abbrev d : Draws
  d = tallied a 0 st

  abbrev whole : ℕ → List Object → Rule ℕ AtObject (List (List Note))
  whole wide os = walk (song_facts s) (columns_of s) wide 0 beginning os

  -- an end on the list of values, from the state
  played : (m : Rule ℕ AtObject (List (List Note))) (nss : List (List Note)) (n : ℕ) → run m (values a st) ≡ ended nss n
      → (on_walk m d ≡ found nss (tallied (a - n) (max 0 (longest m (values a st))) (steps n st))) × (n ≤ a)
  unfolding placed taken
  played m nss n u = (
    play_run spent_at refused_at m a 0 st ∙ ap (placed spent_at refused_at a (max 0 (longest m (values a st))) st) u,
    subst (λ (o : Outcome ℕ AtObject (List (List Note))). taken o ≤ a) u (done_le m st a (subst Done (sym u) tt)),
  )

  -- with room for a header the job is the walk
  walked : header_size ≤ length buffer → on_walk (convert s (length buffer)) d ≡ on_walk (whole (length buffer) s.objects) d
  unfolding convert
  walked h = rw (le-ltb (length buffer) header_size h)

  stopped : (r i n : ℕ) → n ≤ a → header_size ≤ length buffer → (e : Draws) → e.tally.left ≡ a - n → on_walk (whole (length buffer) s.objects) d ≡ refused (stop (0 + i) r) e → job s buffer a ≡ refusing r i n buffer
  stopped r i n small header e is h =
      job_stopped s buffer a (stop (0 + i) r) e (walked header ∙ h)
      ∙ ap₂ (λ (j k : ℕ). refusing r j k buffer) (zero-add i) (ap (λ (x : ℕ). a - x) is ∙ sub-sub_self small)

  pub eight_refuses : (i n : ℕ) → TooLate s (length buffer) a i n → job s buffer a ≡ refusing Numbers.slider_end i n buffer
  eight_refuses i n h =
      let p = played (whole (length buffer) (take i s.objects)) h.nss n h.made in
      stopped 8 i n p.1 h.header _ refl (late_walk (song_facts s) (columns_of s) (length buffer) i 0 beginning s.objects d h.nss _ p.0 h.late)

  pub eleven_refuses : (i n : ℕ) → TooLong s (length buffer) a i n → job s buffer a ≡ refusing Numbers.chart_too_short i n buffer
  unfolding beginning
  eleven_refuses i n h =
      let wide = chart_size (length (in_walk_order h.nss)) in
      let p = played (whole (length buffer) (take i s.objects)) h.before h.drawn h.fit in
      let q = played (whole wide (take (suc i) s.objects)) h.nss n (h.made wide (same wide)) in
      stopped 11 i n q.1 h.header _ refl
      (full_walk (song_facts s) (columns_of s) (length buffer) i 0 beginning s.objects d h.before _ wide h.nss _ (first h.header) p.0 q.0 (out (length (in_walk_order h.nss)) h.long))
    where
      same : (n : ℕ) → n ≤ n
      same n = omega arith

      first : header_size ≤ length buffer → chart_size 0 ≤ length buffer
      first h = omega arith

      out : (k : ℕ) → length buffer < chart_size k → length buffer < chart_size (0 + k)
      out k h = omega arith

  -- a buffer without room for a header
  at_once : length buffer < header_size → on_walk (convert s (length buffer)) d ≡ refused (stop 0 11) d
  unfolding convert play
  at_once h = rw (lt-ltb (length buffer) header_size h)

  pub short_refuses : length buffer < header_size → job s buffer a ≡ refusing Numbers.chart_too_short 0 0 buffer
  short_refuses h = job_stopped s buffer a (stop 0 11) d (at_once h) ∙ ap (λ (k : ℕ). refusing 11 0 k buffer) (none a)
    where
      none : (a : ℕ) → a - a ≡ 0
      none a = omega arith
