-- One turn of each loop, in its rule: what the turn gave is handed on, or refused. Assumes nothing.
use Rattle.std.specs.Prelude.{if◌then◌else◌}
use mathlib.Core.Path.{◌≡◌, refl, sym, ap, ◌∙◌}
use Prim.Native.Nat.{ℕ, suc, ◌+◌, ◌-◌, ◌^◌, ◌≤◌, ◌<◌}
use native.Mathlib.Omega.{arith}
use mathlib.Core.Bool.{Bool, true, false, ◌&&◌}
use mathlib.Core.List.{List}
use lib.Bits.{bit_or}
use Rattle.std.specs.Int.Bits.{or_zero_l}
use lib.Dec.{eqb, ltb}
use lib.ListN.{length}
use Rattle.rules.specs.Rule.{give, ◌>>=◌}
use Rattle.rules.specs.Refusal.{ObjectRule}
use Rattle.random.specs.Play.{Answer, found, refused, play, on}
use Rattle.random.specs.declared.Draws.{Draws}
use Rattle.random.specs.Laws.On.{found_bind, refused_bind}
use Rattle.mania.specs.declared.SliderNote.{SliderNote}
use Rattle.mania.specs.declared.PathObjectPatternGenerator.{PathObjectPatternGenerator}
use Rattle.mania.specs.declared.Next.TheVariants.{Draw}
use Rattle.mania.specs.Pattern.{Pattern, put}
use Rattle.mania.specs.PatternGenerator.{random_start, get_random_column, find_available_column}
use Rattle.mania.specs.PathObject.{add_slider_note, any_column, find_column, add_holds, add_row, add_stair, other_column, add_rows, add_tiles, add_beside, add_besides}
use Rattle.pattern.specs.Answers.{pattern}
use Rattle.slider_notes.specs.Words.{of_word, slider_note, Put, PutOther, rises}
use Rattle.pattern.specs.declared.Pattern as Lent
use Rattle.slider_notes.proofs.Words.{add_on, all}

-- at a loop's head: the rule with so many turns left comes to what the whole comes to, and there is room for what it still writes
pub record At {A : Type 0} (columns : ℕ) (entry now : List ℕ) (most need c : ℕ) (p : Lent.Pattern) (rule : ℕ → Answer ℕ A) (left : ℕ) (whole : Answer ℕ A) : Type 0 where
  pub size : length now ≡ length entry
  pub room : p.count + need ≤ most
  pub deck : c < columns
  pub goes : rule left ≡ whole

pub start : {A : Type 0} (columns : ℕ) (entry : List ℕ) (most need c : ℕ) (p : Lent.Pattern) (rule : ℕ → Answer ℕ A) (n : ℕ) → p.count + need ≤ most → c < columns
    → At columns entry entry most need c p rule (n - 0) (rule n)
start columns entry most need c p rule n r h = record { size = refl; room = r; deck = h; goes = ap rule (all n) }

-- the search of the code
abbrev pub seek : PathObjectPatternGenerator → ℕ → ℕ → ObjectRule ℕ
seek g c taken = find_available_column Draw g.columns c (random_start g.columns) g.columns taken

-- a drawn column of the code
abbrev pub drawn : PathObjectPatternGenerator → ObjectRule ℕ
drawn g = get_random_column (random_start g.columns) g.columns

mask_is : (now : List ℕ) (p : Lent.Pattern) → (pattern of_word now p).mask ≡ p.mask
unfolding pattern
mask_is now p = refl

-- ---- a row

module _ (g : PathObjectPatternGenerator) (now : List ℕ) (n time c : ℕ) (p : Lent.Pattern) (rest : Draws) where
  row_is : (s : Pattern SliderNote) → (m : ℕ) → n ≡ suc m
      → add_row g n time c s ≡ (add_slider_note g c time time s >>= (λ q. find_column g c (2 ^ c) >>= (λ d. add_row g m (time + g.length) d q)))
  unfolding add_row
  row_is s m h = ap (λ (k : ℕ). add_row g k time c s) h

  module _ (m : ℕ) (h : n ≡ suc m) (deck : c < g.columns) (after : List ℕ) (q : Lent.Pattern) (w : Put now after p (slider_note c time time) q) (next : Draws)
      (own : ℕ) (o : own ≡ bit_or 0 (2 ^ c)) where
    row_put : on (add_row g n time c (pattern of_word now p)) rest ≡ on (seek g c own >>= (λ d. add_row g m (time + g.length) d (pattern of_word after q))) rest
    unfolding find_column
    row_put =
        ap (λ (o : ObjectRule (Pattern SliderNote)). on o rest) (row_is (pattern of_word now p) m h)
        ∙ found_bind _ _ _ _ _ (add_on g c time time (pattern of_word now p) rest deck)
        ∙ rw (w.is, o, or_zero_l (2 ^ c))

    pub row_more : (e : ℕ) → on (seek g c own) rest ≡ found e next
        → on (add_row g n time c (pattern of_word now p)) rest ≡ on (add_row g m (time + g.length) e (pattern of_word after q)) next
    row_more e f = row_put ∙ found_bind _ _ _ _ _ f

    pub row_stop : (x : ℕ) → on (seek g c own) rest ≡ refused x next → on (add_row g n time c (pattern of_word now p)) rest ≡ refused x next
    row_stop x f = row_put ∙ refused_bind _ _ _ _ _ f

  pub row_end : n ≤ 0 → on (add_row g n time c (pattern of_word now p)) rest ≡ found (pattern of_word now p) rest
  unfolding add_row play
  row_end h = let e : n ≡ 0 = omega arith in ap (λ (k : ℕ). on (add_row g k time c (pattern of_word now p)) rest) e

-- ---- holds of the whole slider

module _ (g : PathObjectPatternGenerator) (now : List ℕ) (barred n c : ℕ) (p : Lent.Pattern) (rest : Draws) where
  holds_is : (s : Pattern SliderNote) → (m : ℕ) → n ≡ suc m
      → add_holds g barred n c s ≡ (find_column g c (bit_or s.mask barred) >>= (λ d. add_slider_note g d g.start g.end s >>= (λ q. add_holds g barred m d q)))
  unfolding add_holds
  holds_is s m h = ap (λ (k : ℕ). add_holds g barred k c s) h

  module _ (m : ℕ) (h : n ≡ suc m) (next : Draws) where
    pub holds_more : (e : ℕ) → on (seek g c (bit_or p.mask barred)) rest ≡ found e next → e < g.columns
        → (after : List ℕ) (q : Lent.Pattern) → Put now after p (slider_note e g.start g.end) q
        → on (add_holds g barred n c (pattern of_word now p)) rest ≡ on (add_holds g barred m e (pattern of_word after q)) next
    unfolding find_column
    holds_more e f deck after q w =
        ap (λ (o : ObjectRule (ℕ × Pattern SliderNote)). on o rest) (holds_is (pattern of_word now p) m h)
        ∙ found_bind _ _ _ _ _ (ap (λ (k : ℕ). on (seek g c (bit_or k barred)) rest) (mask_is now p) ∙ f)
        ∙ found_bind _ _ _ _ _ (add_on g e g.start g.end (pattern of_word now p) next deck)
        ∙ rw w.is

    pub holds_stop : (x : ℕ) → on (seek g c (bit_or p.mask barred)) rest ≡ refused x next → on (add_holds g barred n c (pattern of_word now p)) rest ≡ refused x next
    unfolding find_column
    holds_stop x f =
        ap (λ (o : ObjectRule (ℕ × Pattern SliderNote)). on o rest) (holds_is (pattern of_word now p) m h)
        ∙ refused_bind _ _ _ _ _ (ap (λ (k : ℕ). on (seek g c (bit_or k barred)) rest) (mask_is now p) ∙ f)

  pub holds_end : n ≤ 0 → on (add_holds g barred n c (pattern of_word now p)) rest ≡ found (c, pattern of_word now p) rest
  unfolding add_holds play
  holds_end h = let e : n ≡ 0 = omega arith in ap (λ (k : ℕ). on (add_holds g barred k c (pattern of_word now p)) rest) e

-- ---- tiled holds

module _ (g : PathObjectPatternGenerator) (now : List ℕ) (end n time c : ℕ) (p : Lent.Pattern) (rest : Draws) where
  tiles_is : (s : Pattern SliderNote) → (m : ℕ) → n ≡ suc m
      → add_tiles g end n time c s ≡ (find_column g c s.mask >>= (λ d. add_slider_note g d time end s >>= (λ q. add_tiles g end m (time + g.length) d q)))
  unfolding add_tiles
  tiles_is s m h = ap (λ (k : ℕ). add_tiles g end k time c s) h

  module _ (m : ℕ) (h : n ≡ suc m) (next : Draws) where
    pub tiles_more : (e : ℕ) → on (seek g c p.mask) rest ≡ found e next → e < g.columns
        → (after : List ℕ) (q : Lent.Pattern) → Put now after p (slider_note e time end) q
        → on (add_tiles g end n time c (pattern of_word now p)) rest ≡ on (add_tiles g end m (time + g.length) e (pattern of_word after q)) next
    unfolding find_column
    tiles_more e f deck after q w =
        ap (λ (o : ObjectRule (Pattern SliderNote)). on o rest) (tiles_is (pattern of_word now p) m h)
        ∙ found_bind _ _ _ _ _ (ap (λ (k : ℕ). on (seek g c k) rest) (mask_is now p) ∙ f)
        ∙ found_bind _ _ _ _ _ (add_on g e time end (pattern of_word now p) next deck)
        ∙ rw w.is

    pub tiles_stop : (x : ℕ) → on (seek g c p.mask) rest ≡ refused x next → on (add_tiles g end n time c (pattern of_word now p)) rest ≡ refused x next
    unfolding find_column
    tiles_stop x f =
        ap (λ (o : ObjectRule (Pattern SliderNote)). on o rest) (tiles_is (pattern of_word now p) m h)
        ∙ refused_bind _ _ _ _ _ (ap (λ (k : ℕ). on (seek g c k) rest) (mask_is now p) ∙ f)

  pub tiles_end : n ≤ 0 → on (add_tiles g end n time c (pattern of_word now p)) rest ≡ found (pattern of_word now p) rest
  unfolding add_tiles play
  tiles_end h = let e : n ≡ 0 = omega arith in ap (λ (k : ℕ). on (add_tiles g end k time c (pattern of_word now p)) rest) e

-- ---- a row beside a hold

module _ (g : PathObjectPatternGenerator) (now : List ℕ) (hold time n c row : ℕ) (p : Lent.Pattern) (rest : Draws) where
  beside_is : (s : Pattern SliderNote) → (m : ℕ) → n ≡ suc m
      → add_beside g hold time n c row s
      ≡ (find_column g c (bit_or row (2 ^ hold)) >>= (λ d. add_slider_note g d time time s >>= (λ q. add_beside g hold time m d (bit_or row (2 ^ d)) q)))
  unfolding add_beside
  beside_is s m h = ap (λ (k : ℕ). add_beside g hold time k c row s) h

  module _ (m : ℕ) (h : n ≡ suc m) (next : Draws) (taken : ℕ) (t : taken ≡ bit_or row (2 ^ hold)) where
    pub beside_more : (e : ℕ) → on (seek g c taken) rest ≡ found e next → e < g.columns → (both : ℕ) → both ≡ bit_or row (2 ^ e)
        → (after : List ℕ) (q : Lent.Pattern) → Put now after p (slider_note e time time) q
        → on (add_beside g hold time n c row (pattern of_word now p)) rest ≡ on (add_beside g hold time m e both (pattern of_word after q)) next
    unfolding find_column
    beside_more e f deck both b after q w =
        ap (λ (o : ObjectRule (ℕ × Pattern SliderNote)). on o rest) (beside_is (pattern of_word now p) m h)
        ∙ found_bind _ _ _ _ _ (rw t at f)
        ∙ found_bind _ _ _ _ _ (add_on g e time time (pattern of_word now p) next deck)
        ∙ rw (w.is, b)

    pub beside_stop : (x : ℕ) → on (seek g c taken) rest ≡ refused x next → on (add_beside g hold time n c row (pattern of_word now p)) rest ≡ refused x next
    unfolding find_column
    beside_stop x f =
        ap (λ (o : ObjectRule (ℕ × Pattern SliderNote)). on o rest) (beside_is (pattern of_word now p) m h)
        ∙ refused_bind _ _ _ _ _ (rw t at f)

  pub beside_end : n ≤ 0 → on (add_beside g hold time n c row (pattern of_word now p)) rest ≡ found (c, pattern of_word now p) rest
  unfolding add_beside play
  beside_end h = let e : n ≡ 0 = omega arith in ap (λ (k : ℕ). on (add_beside g hold time k c row (pattern of_word now p)) rest) e

-- ---- a stair

module _ (g : PathObjectPatternGenerator) (now : List ℕ) (n time c : ℕ) (up : Bool) (p : Lent.Pattern) (rest : Draws) where
  stair_is : (s : Pattern SliderNote) → (m : ℕ) → n ≡ suc m
      → add_stair g n time c up s
      ≡ (add_slider_note g c time time s
      >>= (λ q. add_stair g m (time + g.length) (if rises g.columns c up then c + 1 else c - 1) (rises g.columns c up) q))
  unfolding add_stair
  stair_is s m h = ap (λ (k : ℕ). add_stair g k time c up s) h

  pub stair_more : (m : ℕ) → n ≡ suc m → c < g.columns → (after : List ℕ) (q : Lent.Pattern) → Put now after p (slider_note c time time) q
      → (on_up : Bool) → on_up ≡ rises g.columns c up → (d : ℕ) → d ≡ (if on_up then c + 1 else c - 1)
      → on (add_stair g n time c up (pattern of_word now p)) rest ≡ on (add_stair g m (time + g.length) d on_up (pattern of_word after q)) rest
  stair_more m h deck after q w on_up u d e =
      ap (λ (o : ObjectRule (Pattern SliderNote)). on o rest) (stair_is (pattern of_word now p) m h)
      ∙ found_bind _ _ _ _ _ (add_on g c time time (pattern of_word now p) rest deck)
      ∙ rw (e, w.is, u)

  pub stair_end : n ≤ 0 → on (add_stair g n time c up (pattern of_word now p)) rest ≡ found (pattern of_word now p) rest
  unfolding add_stair play
  stair_end h = let e : n ≡ 0 = omega arith in ap (λ (k : ℕ). on (add_stair g k time c up (pattern of_word now p)) rest) e

-- ---- rows of two

-- the second note, where there is one
second_on : (g : PathObjectPatternGenerator) (b : Bool) (c time : ℕ) (s : Pattern SliderNote) (rest : Draws) → c < g.columns
    → on (if b then add_slider_note g c time time s else give s) rest ≡ found (if b then put (slider_note c time time) c s else s) rest
unfolding play
second_on g true c time s rest h = add_on g c time time s rest h
second_on g false c time s rest h = refl

module _ (g : PathObjectPatternGenerator) (now : List ℕ) (interval n time c : ℕ) (p : Lent.Pattern) (rest : Draws) where
  abbrev other : ℕ
  other = other_column g.columns interval c

  rows_is : (s : Pattern SliderNote) → (m : ℕ) → n ≡ suc m
      → add_rows g interval n time c s
      ≡ (add_slider_note g c time time s
      >>= (λ q. (if ltb 2 g.columns then add_slider_note g other time time q else give q)
      >>= (λ r. any_column g >>= (λ d. add_rows g interval m (time + g.length) d r))))
  unfolding add_rows
  rows_is s m h = ap (λ (k : ℕ). add_rows g interval k time c s) h

  module _ (m : ℕ) (h : n ≡ suc m) (deck : c < g.columns) (deck2 : other < g.columns) (mid after : List ℕ) (q r : Lent.Pattern) (w : Put now mid p (slider_note c time time) q)
      (v : PutOther mid after q g.columns (slider_note other time time) r) (next : Draws) where
    rows_put : on (add_rows g interval n time c (pattern of_word now p)) rest ≡ on (drawn g >>= (λ d. add_rows g interval m (time + g.length) d (pattern of_word after r))) rest
    unfolding any_column
    rows_put =
        ap (λ (o : ObjectRule (Pattern SliderNote)). on o rest) (rows_is (pattern of_word now p) m h)
        ∙ found_bind _ _ _ _ _ (add_on g c time time (pattern of_word now p) rest deck)
        ∙ found_bind _ _ _ _ _ (second_on g (ltb 2 g.columns) other time (put (slider_note c time time) c (pattern of_word now p)) rest deck2)
        ∙ rw (v.is, w.is)

    pub rows_more : (e : ℕ) → on (drawn g) rest ≡ found e next
        → on (add_rows g interval n time c (pattern of_word now p)) rest ≡ on (add_rows g interval m (time + g.length) e (pattern of_word after r)) next
    rows_more e f = rows_put ∙ found_bind _ _ _ _ _ f

    pub rows_stop : (x : ℕ) → on (drawn g) rest ≡ refused x next → on (add_rows g interval n time c (pattern of_word now p)) rest ≡ refused x next
    rows_stop x f = rows_put ∙ refused_bind _ _ _ _ _ f

  pub rows_end : n ≤ 0 → on (add_rows g interval n time c (pattern of_word now p)) rest ≡ found (pattern of_word now p) rest
  unfolding add_rows play
  rows_end h = let e : n ≡ 0 = omega arith in ap (λ (k : ℕ). on (add_rows g interval k time c (pattern of_word now p)) rest) e

-- ---- rows beside a hold

-- how many circles a row has
abbrev pub here : PathObjectPatternGenerator → Bool → ℕ → ℕ → ℕ
here g bare k time = if bare && eqb time g.start then 0 else k

pub here_le : (g : PathObjectPatternGenerator) (bare : Bool) (k time : ℕ) → here g bare k time ≤ k
here_le g bare k time = go (bare && eqb time g.start)
  where
    go : (b : Bool) → (if b then 0 else k) ≤ k
    go true = omega arith
    go false = omega arith

module _ (g : PathObjectPatternGenerator) (now : List ℕ) (hold : ℕ) (bare : Bool) (k n time c : ℕ) (p : Lent.Pattern) (rest : Draws) where
  besides_is : (s : Pattern SliderNote) → (m : ℕ) → n ≡ suc m
      → add_besides g hold bare k n time c s
      ≡ (add_beside g hold time (here g bare k time) c 0 s >>= (λ row. add_besides g hold bare k m (time + g.length) row.0 row.1))
  unfolding add_besides
  besides_is s m h = ap (λ (j : ℕ). add_besides g hold bare k j time c s) h

  module _ (m : ℕ) (h : n ≡ suc m) (some : ℕ) (i : some ≡ here g bare k time) (next : Draws) where
    pub besides_more : (e : ℕ) (after : List ℕ) (q : Lent.Pattern) → on (add_beside g hold time some c 0 (pattern of_word now p)) rest ≡ found (e, pattern of_word after q) next
        → on (add_besides g hold bare k n time c (pattern of_word now p)) rest ≡ on (add_besides g hold bare k m (time + g.length) e (pattern of_word after q)) next
    besides_more e after q f =
        ap (λ (o : ObjectRule (Pattern SliderNote)). on o rest) (besides_is (pattern of_word now p) m h)
        ∙ found_bind _ _ _ _ _ (ap (λ (j : ℕ). on (add_beside g hold time j c 0 (pattern of_word now p)) rest) (sym i) ∙ f)

    pub besides_stop : (x : ℕ) → on (add_beside g hold time some c 0 (pattern of_word now p)) rest ≡ refused x next
        → on (add_besides g hold bare k n time c (pattern of_word now p)) rest ≡ refused x next
    besides_stop x f =
        ap (λ (o : ObjectRule (Pattern SliderNote)). on o rest) (besides_is (pattern of_word now p) m h)
        ∙ refused_bind _ _ _ _ _ (ap (λ (j : ℕ). on (add_beside g hold time j c 0 (pattern of_word now p)) rest) (sym i) ∙ f)

  pub besides_end : n ≤ 0 → on (add_besides g hold bare k n time c (pattern of_word now p)) rest ≡ found (pattern of_word now p) rest
  unfolding add_besides play
  besides_end h = let e : n ≡ 0 = omega arith in ap (λ (j : ℕ). on (add_besides g hold bare k j time c (pattern of_word now p)) rest) e
