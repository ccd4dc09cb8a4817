-- The generators' rules, one call at a time. Assumes nothing.
use Rattle.std.specs.Prelude.{if◌then◌else◌}
use mathlib.Core.Path.{◌≡◌, ◌∙◌}
use Prim.Native.Nat.{ℕ, ◌+◌, ◌-◌, ◌<◌, min}
use mathlib.Core.Bool.{Bool, true, false, not, ◌&&◌}
use lib.Count.{ones}
use lib.Dec.{ltb}
use lib.Ieee.{Float}
use Rattle.rules.specs.Rule.{◌>>=◌}
use Rattle.rules.specs.Refusal.{ObjectRule}
use Rattle.random.specs.Play.{found, refused, play, on}
use Rattle.random.specs.declared.Draws.{Draws}
use Rattle.random.specs.Laws.On.{found_bind, refused_bind}
use Rattle.mania.specs.declared.SliderNote.{SliderNote}
use Rattle.mania.specs.declared.PathObjectPatternGenerator.{PathObjectPatternGenerator}
use Rattle.mania.specs.declared.Next.TheVariants.{Draw}
use Rattle.mania.specs.Steps.{double}
use Rattle.model.specs.Sound.{whistle, finish, clap, has_flag}
use Rattle.mania.specs.Pattern.{Pattern, empty, put}
use Rattle.mania.specs.PatternType.{contains}
use Rattle.mania.specs.PatternGenerator.{random_start, get_column, get_random_column, get_random_note_count, find_available_column}
use Rattle.mania.specs.PathObject.{Chances, any_column, find_column, head_column, add_holds, generate_random_hold_notes}
use Rattle.mania.specs.PathObject.{capped, two_notes, generate_n_random_notes, add_besides, beside_count, generate_hold_and_normal_notes}
use Rattle.slider_notes.specs.Words.{slider_note}
use Rattle.slider_notes.proofs.Words.{add_on}

-- ---- columns

module _ (g : PathObjectPatternGenerator) (flags : ℕ) (d : Draws) (own : ℕ) (o : own ≡ get_column g.x g.columns) (b : Bool)
    (m : b ≡ (contains flags 2 && ltb (ones g.mask) g.columns)) where
  pub head_moved : b ≡ true → on (head_column g flags) d ≡ on (find_available_column Draw g.columns own (random_start g.columns) g.columns g.mask) d
  unfolding head_column find_column
  head_moved t = rw (← m, t, o)

  pub head_own : b ≡ false → on (head_column g flags) d ≡ found own d
  unfolding head_column play
  head_own t = rw (← m, t, o)

module _ (g : PathObjectPatternGenerator) (d : Draws) where
  abbrev drawn : ObjectRule ℕ
  drawn = get_random_column (random_start g.columns) g.columns

  -- ---- holds

  -- those off the previous pattern, and those that come anywhere
  module _ (n c : ℕ) (e : Draws) (h : on drawn d ≡ found c e) (s : Pattern SliderNote) (b : s ≡ empty) (off over : ℕ)
      (i : off ≡ min (g.columns - random_start g.columns - ones g.mask) n) (j : over ≡ n + ones g.mask - (g.columns - random_start g.columns)) where
    pub off_stop : (x : ℕ) (f : Draws) → on (add_holds g g.mask off c s) e ≡ refused x f → on (generate_random_hold_notes g n) d ≡ refused x f
    unfolding generate_random_hold_notes any_column
    off_stop x f k = found_bind drawn _ _ _ _ h ∙ refused_bind _ _ _ _ _ (rw (i, b) at k)

    module _ (m : ℕ) (t : Pattern SliderNote) (f : Draws) (k : on (add_holds g g.mask off c s) e ≡ found (m, t) f) where
      pub over_stop : (x : ℕ) (l : Draws) → on (add_holds g 0 over m t) f ≡ refused x l → on (generate_random_hold_notes g n) d ≡ refused x l
      unfolding generate_random_hold_notes any_column
      over_stop x l z = found_bind drawn _ _ _ _ h ∙ found_bind _ _ _ _ _ (rw (i, b) at k) ∙ refused_bind _ _ _ _ _ (rw j at z)

      pub holds_found : (y : ℕ) (u : Pattern SliderNote) (l : Draws) → on (add_holds g 0 over m t) f ≡ found (y, u) l → on (generate_random_hold_notes g n) d ≡ found u l
      unfolding generate_random_hold_notes any_column play
      holds_found y u l z = found_bind drawn _ _ _ _ h ∙ found_bind _ _ _ _ _ (rw (i, b) at k) ∙ found_bind _ _ _ _ _ (rw j at z)

  -- ---- random counts of holds

  module _ (chance k : Chances) (i : k ≡ capped g.columns chance) (two : Bool) (t : two ≡ two_notes g) (p : Float) (j : p ≡ (if two then double 1 1 else k.p2)) where
    abbrev counting : ObjectRule ℕ
    counting = get_random_note_count p k.p3 k.p4 (double 0 1) (double 0 1)

    pub n_found : (n : ℕ) (e : Draws) → on counting d ≡ found n e → on (generate_n_random_notes g chance) d ≡ on (generate_random_hold_notes g n) e
    unfolding generate_n_random_notes
    n_found n e h = found_bind _ _ _ _ _ (rw (j, t, i) at h)

    pub n_stop : (x : ℕ) (e : Draws) → on counting d ≡ refused x e → on (generate_n_random_notes g chance) d ≡ refused x e
    unfolding generate_n_random_notes
    n_stop x e h = refused_bind _ _ _ _ _ (rw (j, t, i) at h)

module _ (g : PathObjectPatternGenerator) (d : Draws) (hold : ℕ) (e : Draws) (h : on (head_column g g.flags) d ≡ found hold e) (deck : hold < g.columns)
    (s p : Pattern SliderNote) (b : s ≡ empty) (w : p ≡ put (slider_note hold g.start g.end) hold s) where
  abbrev circles : Pattern SliderNote → ObjectRule (Pattern SliderNote)
  circles q =
      any_column g
      >>= (λ c. beside_count g
      >>= (λ n. add_besides g hold (not (has_flag g.head (whistle + finish + clap))) (min n (g.columns - 1)) (g.spans + 1) g.start c q))

  after_hold : on (generate_hold_and_normal_notes g) d ≡ on (circles p) e
  unfolding generate_hold_and_normal_notes
  after_hold = found_bind (head_column g g.flags) _ _ _ _ h ∙ found_bind _ _ _ _ _ (add_on g hold g.start g.end empty e deck) ∙ rw (w, b)

  pub column_stop : (x : ℕ) (f : Draws) → on (drawn g e) e ≡ refused x f → on (generate_hold_and_normal_notes g) d ≡ refused x f
  unfolding any_column
  column_stop x f k = after_hold ∙ refused_bind (drawn g e) _ _ _ _ k

  module _ (c : ℕ) (f : Draws) (k : on (drawn g e) e ≡ found c f) where
    pub count_stop : (x : ℕ) (l : Draws) → on (beside_count g) f ≡ refused x l → on (generate_hold_and_normal_notes g) d ≡ refused x l
    unfolding any_column
    count_stop x l z = after_hold ∙ found_bind (drawn g e) _ _ _ _ k ∙ refused_bind (beside_count g) _ _ _ _ z

    pub normal_found : (n : ℕ) (l : Draws) (bare : Bool) (many : ℕ) → bare ≡ not (has_flag g.head 14) → many ≡ min n (g.columns - 1) → on (beside_count g) f ≡ found n l
        → on (generate_hold_and_normal_notes g) d ≡ on (add_besides g hold bare many (g.spans + 1) g.start c p) l
    unfolding any_column
    normal_found n l bare many i j z = after_hold ∙ found_bind (drawn g e) _ _ _ _ k ∙ found_bind (beside_count g) _ _ _ _ z ∙ rw (i, j)
