-- The split of a slider's pattern, as the walk order of its notes. Assumes nothing.
use Rattle.std.specs.Prelude.{if◌then◌else◌, Result, IsErrAnd}
use Rattle.std.proofs.Common.{sym, zero-le}
use Rattle.std.proofs.lemmas.Result.{err_from_is_err_and}
use Rattle.rules.specs.Coded.{code}
use Rattle.random.specs.declared.Refused.{Refused}
use Rattle.random.specs.Laws.Try.{exit}
use Rattle.pattern.specs.declared.Made as LentMade
use mathlib.Core.Path.{◌≡◌, refl, ap, ◌∙◌}
use Prim.Native.Nat.{ℕ, suc, ◌≤◌, ◌<◌}
use native.Mathlib.Omega.{arith}
use mathlib.Core.Bool.{Bool, true, false}
use mathlib.Core.List.{List, [], ◌∷◌, ◌++◌, map}
use lib.Dec.{eqb}
use borrow.Author.Tests.{lt-ltb, le-ltb, ne_eqb}
use lib.ListN.{length, take}
use Rattle.random.specs.Play.{Answer, found, refused, play, on}
use Rattle.random.specs.declared.Draws.{Draws}
use Rattle.random.specs.Laws.On.{found_bind, refused_bind}
use Rattle.mania.specs.declared.SliderNote.{SliderNote}
use Rattle.mania.specs.declared.PathObjectPatternGenerator.{PathObjectPatternGenerator}
use Rattle.mania.specs.Made.{Made}
use Rattle.mania.specs.Pattern.{Pattern, empty, put}
use Rattle.mania.specs.PathObject.{note_of, others, ending, split, latest, generate, generate_core}
use Rattle.mania.specs.declared.Note.{Note}
use Rattle.mania.specs.declared.Stair.{Stair}
use Rattle.pattern.specs.Answers.{pattern, made_by, Generates}
use Rattle.pattern.specs.declared.Pattern as Lent
use Rattle.slider_notes.specs.Words.{of_word, note_of_word}
use Rattle.slider_notes.specs.Order.{walk_order}

-- what a slider makes of a pattern in walk order
abbrev pub made : Stair → Pattern SliderNote → Made
made stair p = record { notes = map note_of p.notes; mask = p.mask; last = p.last; stair = stair }

notes_are : (ws : List ℕ) → map note_of_word ws ≡ map note_of (map of_word ws)
unfolding note_of_word
notes_are [] = refl
notes_are (w ∷ ws) = ap {B = List Note} (λ l. note_of (of_word w) ∷ l) (notes_are ws)

pub made_is : (stair : Stair) (words : List ℕ) (q : Lent.Pattern)
    → ◌≡◌ {A = Made} (record { notes = map note_of_word (take q.count words); mask = q.mask; last = q.last; stair = stair }) (made stair (pattern of_word words q))
unfolding pattern
made_is stair words q = ap (λ (l : List Note). record { notes = l; mask = q.mask; last = q.last; stair = stair }) (notes_are (take q.count words))

pub split_is : (g : PathObjectPatternGenerator) (p : Pattern SliderNote) → split g p ≡ made g.stair (walk_order g.end p)
unfolding split walk_order others ending put empty
split_is g p = go p.notes
  where
    one : (b : SliderNote) (t : Bool) → b ∷ [] ≡ (if t then [] else b ∷ []) ++ (if t then put b b.column empty else empty).notes
    one b true = refl
    one b false = refl

    go : (l : List SliderNote)
        → ◌≡◌ {A = Made} (split g (record { mask = p.mask; last = p.last; notes = l })) (made g.stair (walk_order g.end (record { mask = p.mask; last = p.last; notes = l })))
    go [] = refl
    go (b ∷ []) = ap (λ (l : List SliderNote). record { notes = map note_of l; mask = p.mask; last = p.last; stair = g.stair }) (one b (eqb b.end g.end))
    go (b ∷ c ∷ bs) =
        let n : eqb (suc (suc (length bs))) 1 ≡ false = ne_eqb (suc (suc (length bs))) 1 (λ (h : suc (suc (length bs)) ≡ 1). omega arith) in
        rw n

module _ (g : PathObjectPatternGenerator) (d : Draws) where
  pub late : latest < g.end → on (generate g) d ≡ refused 8 d
  unfolding generate play
  late h = rw (lt-ltb _ _ h)

  pub in_time : g.end ≤ latest → (p : Pattern SliderNote) (e : Draws) → on (generate_core g) d ≡ found p e
      → on (generate g) d ≡ found (made g.stair (walk_order g.end p)) e
  unfolding generate play
  in_time h p e f = rw (le-ltb _ _ h) (found_bind (generate_core g) _ _ _ _ f ∙ ap (λ (m : Made). found m e) (split_is g p))

  pub refused_in : g.end ≤ latest → (x : ℕ) (e : Draws) → on (generate_core g) d ≡ refused x e → on (generate g) d ≡ refused x e
  unfolding generate
  refused_in h x e f = rw (le-ltb _ _ h) (refused_bind (generate_core g) _ _ _ _ f)

-- its exit answers the refusal of a call
pub stops : (words : List ℕ) (e : Refused) (r : Result (LentMade.Made × Draws) Refused) → IsErrAnd r (λ y. y ≡ e) → (a : Answer ℕ Made) (most : ℕ)
    → a ≡ refused (code e.refusal) e.draws → Generates note_of_word words a most r
stops words e r h a most w = let p = err_from_is_err_and r h in record { says = exit (made_by note_of_word words) r e h ∙ sym w; few = rw p.1 zero-le }
