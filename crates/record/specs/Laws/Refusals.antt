-- What is true of the bytes where a number is given, and where none is. Assumes nothing.
use Rattle.std.specs.Prelude.{◌≡◌, ◌⊎◌, Bool, true, false, Float}
use Rattle.std.proofs.Math.Path.{refl, sym, ap}
use Rattle.std.proofs.Common.{◌∙◌, inl, inr, arith}
use Prim.Native.Nat.{ℕ, zero, suc, ◌+◌, ◌*◌, ◌/◌, ◌≤◌, ◌<◌}
use mathlib.Core.List.{List, [], ◌∷◌}
use Rattle.std.proofs.Math.ListN.{length}
use borrow.Author.Tests.{ltb-true, ltb-false, lt-ltb, le-ltb, eqb-true, not-false}
use Rattle.bits.specs.Field.{bits, short}
use Rattle.model.specs.Song.{Song}
use Rattle.rules.specs.Numbers as Numbers
use Rattle.rules.specs.Each.{Each}
use Rattle.rules.specs.Laws.Each.{each_append}
use Rattle.record.specs.declared.section.Section.{Section}
use Rattle.record.specs.declared.section.Section.TheVariants.{Breaks, TimingPoints, DifficultyPoints, EffectPoints}
use Rattle.record.specs.Layout as At
use Rattle.record.specs.Refusal.{◌gives◌, ◌then◌, Field, field_refusal, fields_refusal, entries_refusal}
use Rattle.record.specs.Header.{header_fields, header_refusal}
use Rattle.record.specs.Section.{entry_fields, entry_refusal, section_refusal}
use Rattle.record.specs.Object.{node_bit, distance_fields, node_fields, kind_fields, object_fields, object_refusal, objects_refusal}
use Rattle.record.specs.Record.{lists_refusal, fill_refusal, record_end, record_refusal, song_of, accepted, refused, parsed_by, parse}
use Rattle.record.specs.Fields.{entries_fields, section_fields, objects_fields, fields_of, Passes, First, Fills, AllPass, FirstFailing}
use Rattle.record.specs.Laws.Row.{then_some, then_none, then_skip, then_assoc, gives_none, or_none, fields_append}
use Rattle.record.specs.Laws.Songs.{parse_accepted}
use Rattle.record.specs.Laws.Accepted.{accepted_none, refused_number}

-- ---- the record's conditions, as one list of fields

module _ (s : List ℕ) where
  entries_fields_law : (fields : ℕ → Float → List Field) (next : ℕ → ℕ) (key : ℕ → Float) (p : ℕ) (before : Float) (n : ℕ)
      → entries_refusal (λ q x. fields_refusal s (fields q x)) next key p before n ≡ fields_refusal s (entries_fields fields next key p before n)
  unfolding entries_refusal entries_fields fields_refusal
  entries_fields_law fields next key p before zero = refl
  entries_fields_law fields next key p before (suc n) =
      ap (λ (x : ℕ). fields_refusal s (fields p before) then x) (entries_fields_law fields next key (next p) (key p) n)
      ∙ sym (fields_append s (fields p before) (entries_fields fields next key (next p) (key p) n))

  pub section_is : (k : Section) (p n : ℕ) → section_refusal k s p n ≡ fields_refusal s (section_fields k s p n)
  unfolding section_refusal entry_refusal section_fields
  section_is k p n = entries_fields_law (entry_fields k s) _ _ p _ n

  pub objects_are : (p n : ℕ) → objects_refusal s p n ≡ fields_refusal s (objects_fields s p n)
  unfolding objects_refusal object_refusal objects_fields
  objects_are p n = entries_fields_law (object_fields s) _ _ p _ n

  -- the conditions of the record are those of its fields, and then the filling
  pub record_fields : record_refusal s ≡ (fields_refusal s (fields_of s) then fill_refusal s (record_end s))
  unfolding record_refusal lists_refusal header_refusal fields_of
  record_fields = simp (section_is, objects_are, fields_append, then_assoc)

-- ---- the first field that does not pass

row_some : (a b n : ℕ) → (a then b) ≡ suc n → (a ≡ suc n) ⊎ ((a ≡ 0) × (b ≡ suc n))
unfolding ◌then◌
row_some zero b n h = inr (refl, h)
row_some (suc a) b n h = inl h

gives_some : (t : Bool) (m n : ℕ) → (t gives m) ≡ suc n → (t ≡ true) × (m ≡ suc n)
unfolding ◌gives◌
gives_some true m n h = (refl, h)
gives_some false m n h = absurd (omega arith)

-- no record is refused with 0
by_zero : (m n : ℕ) (song : Song) → parsed_by m song ≡ refused n → n ≡ 0 → ⊥
by_zero zero n song e z = let w : ◌≡◌ {A = ℕ} 0 1 = cc in omega arith
by_zero (suc m) n song e z = let w : suc m ≡ n = cc in omega arith

not_zero : (s : List ℕ) (n : ℕ) → parse s ≡ refused n → n ≡ 0 → ⊥
unfolding parse
not_zero s n e = by_zero (record_refusal s) n (song_of s) e

parse_by : (m n : ℕ) (song : Song) → (n ≡ 0 → ⊥) → m ≡ n → parsed_by m song ≡ refused n
parse_by zero n song x e = absurd (x (sym e))
parse_by (suc m) n song x e = ap refused e

parse_refused : (s : List ℕ) (n : ℕ) → (n ≡ 0 → ⊥) → record_refusal s ≡ n → parse s ≡ refused n
unfolding parse
parse_refused s n x e = parse_by (record_refusal s) n (song_of s) x e

seven : (s : List ℕ) (n : ℕ) → fill_refusal s (record_end s) ≡ suc n → suc n ≡ Numbers.filling
unfolding fill_refusal
seven s n h = sym (gives_some _ Numbers.filling n h).1

module _ (s : List ℕ) where
  cut : (e : ℕ) → short s e ≡ true → 8 * length s < e
  unfolding short
  cut e h = ltb-true (8 * length s) e h

  whole : (e : ℕ) → short s e ≡ false → e ≤ 8 * length s
  unfolding short
  whole e h = ltb-false (8 * length s) e h

  first_here : (f : Field) (fs : List Field) (n : ℕ)
      → ((8 * length s < f.place + f.width) × (n ≡ Numbers.field_not_whole)) ⊎ ((f.place + f.width ≤ 8 * length s) × (f.own ≡ n)) → (n ≡ 0 → ⊥) → First s (f ∷ fs) n
  first_here f fs n h x = record { before = []; at = f; after = fs; place = refl; passed = tt; fails = fails h; cause = h }
    where
      fails : ((8 * length s < f.place + f.width) × (n ≡ Numbers.field_not_whole)) ⊎ ((f.place + f.width ≤ 8 * length s) × (f.own ≡ n)) → Passes s f → ⊥
      fails (inl h) p = omega (arith, h.0, p.whole)
      fails (inr h) p = x (sym h.1 ∙ p.good)

  first_later : (f : Field) (fs : List Field) (n : ℕ) → Passes s f → First s fs n → First s (f ∷ fs) n
  first_later f fs n h k =
      record { before = f ∷ k.before; at = k.at; after = k.after; place = ap (λ (l : List Field). f ∷ l) k.place; passed = (h, k.passed); fails = k.fails; cause = k.cause }

  passes : (f : Field) → field_refusal s f ≡ 0 → Passes s f
  passes f h = let a = then_none _ _ h in record { whole = whole (f.place + f.width) (gives_none _ 0 a.0); good = a.1 }

  first_field : (fs : List Field) (n : ℕ) → fields_refusal s fs ≡ suc n → First s fs (suc n)
  unfolding fields_refusal
  first_field [] n h = absurd (omega arith)
  first_field (f ∷ fs) n h = by (row_some (field_refusal s f) (fields_refusal s fs) n h) (first_field fs n)
    where
      here : ((short s (f.place + f.width) gives Numbers.field_not_whole) ≡ suc n) ⊎ (((short s (f.place + f.width) gives Numbers.field_not_whole) ≡ 0) × (f.own ≡ suc n)) → First s (f ∷ fs) (suc n)
      here (inl e) = let c = gives_some (short s (f.place + f.width)) Numbers.field_not_whole n e in first_here f fs (suc n) (inl (cut (f.place + f.width) c.0, sym c.1)) (λ z. omega arith)
      here (inr e) = first_here f fs (suc n) (inr (whole (f.place + f.width) (gives_none _ 0 e.0), e.1)) (λ z. omega arith)

      by : (field_refusal s f ≡ suc n) ⊎ ((field_refusal s f ≡ 0) × (fields_refusal s fs ≡ suc n)) → (fields_refusal s fs ≡ suc n → First s fs (suc n)) → First s (f ∷ fs) (suc n)
      by (inl e) go = here (row_some _ _ n e)
      by (inr e) go = first_later f fs (suc n) (passes f e.0) (go e.1)

  all_pass : (fs : List Field) → fields_refusal s fs ≡ 0 → Each (Passes s) fs
  unfolding fields_refusal
  all_pass [] h = tt
  all_pass (f ∷ fs) h = let a = then_none _ _ h in (passes f a.0, all_pass fs a.1)

  none_refused : (fs : List Field) → Each (Passes s) fs → fields_refusal s fs ≡ 0
  unfolding fields_refusal short ◌gives◌ ◌then◌
  none_refused [] h = refl
  none_refused (f ∷ fs) h = rw (le-ltb (8 * length s) (f.place + f.width) h.0.whole, h.0.good) (none_refused fs h.1)

  -- the number of a field that does not pass
  failing : (f : Field) (n : ℕ) → (Passes s f → ⊥)
      → ((8 * length s < f.place + f.width) × (n ≡ Numbers.field_not_whole)) ⊎ ((f.place + f.width ≤ 8 * length s) × (f.own ≡ n)) → (field_refusal s f ≡ n) × (n ≡ 0 → ⊥)
  unfolding short ◌gives◌ ◌then◌
  failing f n x (inl h) = (rw (lt-ltb (8 * length s) (f.place + f.width) h.0) (sym h.1), λ z. omega (arith, h.1))
  failing f n x (inr h) = (rw (le-ltb (8 * length s) (f.place + f.width) h.0) h.1, λ z. x (record { whole = h.0; good = h.1 ∙ z }))

  first_some : {fs : List Field} {n : ℕ} → First s fs n → (fields_refusal s fs ≡ n) × (n ≡ 0 → ⊥)
  unfolding fields_refusal
  first_some {fs = fs} {n = n} f =
      let own = failing f.at n f.fails f.cause in (
        ap (fields_refusal s) f.place
            ∙ (fields_append s f.before (f.at ∷ f.after)
            ∙ (then_skip (fields_refusal s f.before) (fields_refusal s (f.at ∷ f.after)) (none_refused f.before f.passed)
            ∙ (sym (then_some (field_refusal s f.at) (fields_refusal s f.after) (λ z. own.1 (sym own.0 ∙ z))) ∙ own.0))),
        own.1,
      )

  -- ---- the filling

  fills : (p : ℕ) → fill_refusal s p ≡ 0 → Fills s p
  unfolding fill_refusal
  fills p h =
      let e = or_none _ _ (gives_none _ 6 h) in
      record { zeros = eqb-true _ 0 (not-false _ e.0); ends = ltb-false ((p + 7) / 8) (length s) e.1 }

  filled : (p : ℕ) → Fills s p → fill_refusal s p ≡ 0
  unfolding fill_refusal ◌gives◌
  filled p h = rw (h.zeros, le-ltb ((p + 7) / 8) (length s) h.ends)

  unfilled : (p : ℕ) → (Fills s p → ⊥) → fill_refusal s p ≡ Numbers.filling
  unfolding fill_refusal
  unfilled p x = go (fill_refusal s p) refl
    where
      given : (n : ℕ) → fill_refusal s p ≡ suc n → suc n ≡ Numbers.filling
      given n h = sym (gives_some _ Numbers.filling n h).1

      go : (n : ℕ) → fill_refusal s p ≡ n → fill_refusal s p ≡ Numbers.filling
      go zero h = absurd (x (fills p h))
      go (suc n) h = h ∙ given n h

  -- ---- refused and accepted records

  -- where a number is given, it is that of the first check that fails
  pub refused_first : (n : ℕ) → parse s ≡ refused n → FirstFailing s n
  refused_first n e = by n (sym (record_fields s) ∙ refused_number s n e) (not_zero s n e)
    where
      last : (n : ℕ) → fields_refusal s (fields_of s) ≡ 0 → fill_refusal s (record_end s) ≡ suc n → FirstFailing s (suc n)
      last n h k = inr (all_pass (fields_of s) h, (λ f. let z = filled (record_end s) f in omega arith), seven s n k)

      by : (n : ℕ) → (fields_refusal s (fields_of s) then fill_refusal s (record_end s)) ≡ n → (n ≡ 0 → ⊥) → FirstFailing s n
      by zero h x = absurd (x refl)
      by (suc n) h x = part (row_some (fields_refusal s (fields_of s)) (fill_refusal s (record_end s)) n h)
        where
          part : (fields_refusal s (fields_of s) ≡ suc n) ⊎ ((fields_refusal s (fields_of s) ≡ 0) × (fill_refusal s (record_end s) ≡ suc n)) → FirstFailing s (suc n)
          part (inl k) = inl (first_field (fields_of s) n k)
          part (inr k) = last n k.0 k.1

  -- and where a check is the first that fails, its number is given
  pub first_refused : (n : ℕ) → FirstFailing s n → parse s ≡ refused n
  first_refused n (inl f) =
      let some = first_some f in
      parse_refused s n some.1 (record_fields s ∙ (sym (then_some (fields_refusal s (fields_of s)) (fill_refusal s (record_end s)) (λ z. some.1 (sym some.0 ∙ z))) ∙ some.0))
  first_refused n (inr h) =
      parse_refused s n (λ z. let w = h.2 in omega arith)
      (record_fields s ∙ (then_skip (fields_refusal s (fields_of s)) (fill_refusal s (record_end s)) (none_refused (fields_of s) h.0) ∙ (unfilled (record_end s) h.1 ∙ sym h.2)))

  -- an accepted record has no condition
  pub accepted_pass : (song : Song) → parse s ≡ accepted song → AllPass s
  accepted_pass song e =
      let h = then_none (fields_refusal s (fields_of s)) (fill_refusal s (record_end s)) (sym (record_fields s) ∙ (accepted_none s song e).0) in
      record { fields = all_pass (fields_of s) h.0; filled = fills (record_end s) h.1 }

  -- and a record with none is accepted
  pub pass_accepted : AllPass s → parse s ≡ accepted (song_of s)
  pass_accepted h =
      parse_accepted s
      (record_fields s
      ∙ (then_skip (fields_refusal s (fields_of s)) (fill_refusal s (record_end s)) (none_refused (fields_of s) h.fields) ∙ filled (record_end s) h.filled))

-- ---- which fields give which number: 2, 3 and 4 those of the header, 5 those of breaks and points, 6 those of objects

-- a field whose own refusal, if it has one, is n
abbrev pub Gives : ℕ → Field → Type 0
Gives n f = (f.own ≡ 0) ⊎ (f.own ≡ n)

gives_or : (t : Bool) (n : ℕ) → ((t gives n) ≡ 0) ⊎ ((t gives n) ≡ n)
unfolding ◌gives◌
gives_or true n = inr refl
gives_or false n = inl refl

each_entries : (P : Field → Type 0) (fields : ℕ → Float → List Field) (next : ℕ → ℕ) (key : ℕ → Float) → ((p : ℕ) (before : Float) → Each P (fields p before))
    → (p : ℕ) (before : Float) (n : ℕ) → Each P (entries_fields fields next key p before n)
unfolding entries_fields
each_entries P fields next key h p before zero = tt
each_entries P fields next key h p before (suc n) = each_append P (fields p before) _ (h p before) (each_entries P fields next key h (next p) (key p) n)

module _ (s : List ℕ) where
  -- version 2, key choice 3, settings and multiplier 4, and none for the counts
  pub header_gives : Each (λ (f : Field). Gives Numbers.version f ⊎ (Gives Numbers.key_choice f ⊎ Gives Numbers.setting f)) (header_fields s)
  unfolding header_fields
  header_gives = (inl (gives_or _ Numbers.version), (inr (inl (gives_or _ Numbers.key_choice)), (inr (inr (gives_or _ Numbers.setting)), (inr (inr (gives_or _ Numbers.setting)), (inr (inr (gives_or _ Numbers.setting)), (inr (inr (gives_or _ Numbers.setting)), (inr (inr (gives_or _ Numbers.setting)), (inl (inl refl), (inl (inl refl), (inl (inl refl), (inl (inl refl), (inl (inl refl), tt))))))))))))

  entry_gives : (k : Section) (p : ℕ) (before : Float) → Each (Gives Numbers.break_or_point) (entry_fields k s p before)
  entry_gives Breaks p before = (gives_or _ Numbers.break_or_point, (gives_or _ Numbers.break_or_point, tt))
  entry_gives TimingPoints p before = (gives_or _ Numbers.break_or_point, (gives_or _ Numbers.break_or_point, tt))
  entry_gives DifficultyPoints p before = (gives_or _ Numbers.break_or_point, (gives_or _ Numbers.break_or_point, tt))
  entry_gives EffectPoints p before = (gives_or _ Numbers.break_or_point, (inl refl, tt))

  pub section_gives : (k : Section) (p n : ℕ) → Each (Gives Numbers.break_or_point) (section_fields k s p n)
  unfolding section_fields
  section_gives k p n = each_entries (Gives Numbers.break_or_point) (entry_fields k s) _ _ (entry_gives k) p _ n

  distance_gives : (p b : ℕ) → Each (Gives Numbers.object) (distance_fields s p b)
  distance_gives p zero = tt
  distance_gives p (suc b) = (gives_or _ Numbers.object, tt)

  node_gives : (p b : ℕ) → Each (Gives Numbers.object) (node_fields p b)
  node_gives p zero = tt
  node_gives p (suc b) = (inl refl, tt)

  kind_gives : (q k : ℕ) → Each (Gives Numbers.object) (kind_fields s q k)
  kind_gives q zero = tt
  kind_gives q (suc zero) =
      (gives_or _ Numbers.object, (inl refl, each_append (Gives Numbers.object) (distance_fields s (q + At.distance) (bits s (q + At.is_given) 1)) _ (distance_gives (q + At.distance) (bits s (q + At.is_given) 1)) (inl refl, node_gives (node_bit s q + 1) (bits s (node_bit s q) 1))))
  kind_gives q (suc (suc k)) = (gives_or _ Numbers.object, tt)

  object_gives : (p : ℕ) (before : Float) → Each (Gives Numbers.object) (object_fields s p before)
  object_gives p before = (inl refl, (inl refl, (gives_or _ Numbers.object, (gives_or _ Numbers.object, (gives_or _ Numbers.object, kind_gives (p + At.added) (bits s p 2))))))

  pub objects_gives : (p n : ℕ) → Each (Gives Numbers.object) (objects_fields s p n)
  unfolding objects_fields
  objects_gives p n = each_entries (Gives Numbers.object) (object_fields s) _ _ object_gives p _ n
