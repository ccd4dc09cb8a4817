-- What acceptance says: the parts of the row refuse nothing. Assumes nothing.
use Rattle.std.specs.Prelude.{◌≡◌, refl, ℕ, zero, suc, ◌+◌, ◌*◌, ◌≤◌, ◌<◌, List, length}
use Rattle.std.proofs.Common.{subst, arith, ltb-false, eqb-true}
use Rattle.std.proofs.lemmas.Bool.{not-false}
use Rattle.bits.specs.Field.{bits, short}
use Rattle.model.specs.Song.{Song}
use Rattle.record.specs.declared.section.Section.TheVariants.{Breaks, TimingPoints, DifficultyPoints, EffectPoints}
use Rattle.record.specs.Layout as At
use Rattle.record.specs.Refusal.{field_refusal, fields_refusal, entries_refusal}
use Rattle.record.specs.Header.{setting, multiplier, header_fields, header_refusal, counts_of}
use Rattle.record.specs.Section.{section_refusal}
use Rattle.record.specs.Object.{object_refusal, objects_refusal}
use Rattle.record.specs.Record.{places_of, lists_refusal, fill_refusal, record_end, record_refusal, song_of, accepted, refused, parsed_by, parse}
use Rattle.record.specs.Laws.Row.{then_none, gives_none}

-- ---- `parse` and the row

accepted_by : (m : ℕ) (song other : Song) → parsed_by m song ≡ accepted other → (m ≡ 0) × (other ≡ song)
accepted_by zero song other e = (refl, cc)
accepted_by (suc m) song other e = (cc, cc)

refused_by_law : (m n : ℕ) (song : Song) → parsed_by m song ≡ refused n → m ≡ n
refused_by_law zero n song e = cc
refused_by_law (suc m) n song e = cc

-- an accepted record refuses nothing, and its song is that of the bytes
pub accepted_none : (s : List ℕ) (song : Song) → parse s ≡ accepted song → (record_refusal s ≡ 0) × (song ≡ song_of s)
unfolding parse
accepted_none s song e = accepted_by (record_refusal s) (song_of s) song e

-- a refused record's number is that of the first condition that applies
pub refused_number : (s : List ℕ) (n : ℕ) → parse s ≡ refused n → record_refusal s ≡ n
unfolding parse
refused_number s n e = refused_by_law (record_refusal s) n (song_of s) e

-- ---- the parts of the row

pub record HeaderParts (s : List ℕ) : Type 0 where
  pub version : bits s 0 4 ≡ 1
  pub keys : bits s 4 4 ≤ 9
  pub hp : field_refusal s (setting s At.hp) ≡ 0
  pub cs : field_refusal s (setting s At.cs) ≡ 0
  pub od : field_refusal s (setting s At.od) ≡ 0
  pub ar : field_refusal s (setting s At.ar) ≡ 0
  pub multiplier : field_refusal s (multiplier s) ≡ 0
  pub whole : At.breaks ≤ 8 * length s

pub record Parts (s : List ℕ) : Type 0 where
  pub header : header_refusal s ≡ 0
  pub breaks : section_refusal Breaks s At.breaks (counts_of s).breaks ≡ 0
  pub timing : section_refusal TimingPoints s (places_of (counts_of s)).timing (counts_of s).timing ≡ 0
  pub difficulty : section_refusal DifficultyPoints s (places_of (counts_of s)).difficulty (counts_of s).difficulty ≡ 0
  pub effect : section_refusal EffectPoints s (places_of (counts_of s)).effect (counts_of s).effect ≡ 0
  pub objects : objects_refusal s (places_of (counts_of s)).objects (counts_of s).objects ≡ 0
  pub fill : fill_refusal s (record_end s) ≡ 0

pub parts : (s : List ℕ) → record_refusal s ≡ 0 → Parts s
unfolding record_refusal lists_refusal
parts s h =
    let a = then_none _ _ h in
    let b = then_none _ _ a.1 in
    let l = then_none _ _ b.0 in
    let m = then_none _ _ l.1 in
    let n = then_none _ _ m.1 in
    let o = then_none _ _ b.1 in
    record { header = a.0; breaks = l.0; timing = m.0; difficulty = n.0; effect = n.1; objects = o.0; fill = o.1 }

pub header_parts : (s : List ℕ) → header_refusal s ≡ 0 → HeaderParts s
unfolding header_refusal header_fields fields_refusal short
header_parts s h =
    let a = then_none _ _ h in
    let b = then_none _ _ a.1 in
    let d = then_none _ _ b.1 in
    let e = then_none _ _ d.1 in
    let f = then_none _ _ e.1 in
    let g = then_none _ _ f.1 in
    let i = then_none _ _ g.1 in
    let counts = (then_none _ _ (then_none _ _ (then_none _ _ (then_none _ _ (then_none _ _ i.1).1).1).1).1).0 in
    record {
      version = eqb-true (bits s 0 4) 1 (not-false _ (gives_none _ 1 (then_none _ _ a.0).1));
      keys = ltb-false 9 (bits s 4 4) (gives_none _ 2 (then_none _ _ b.0).1);
      hp = d.0;
      cs = e.0;
      od = f.0;
      ar = g.0;
      multiplier = i.0;
      whole = ltb-false (8 * length s) At.breaks (gives_none _ 0 (then_none _ _ counts).0);
    }

-- the first object's first six bits are there
whole_object : (s : List ℕ) (p n : ℕ) → objects_refusal s p n ≡ 0 → 0 < n → p + 6 ≤ 8 * length s
unfolding objects_refusal entries_refusal object_refusal fields_refusal short
whole_object s p zero h l = omega arith
whole_object s p (suc n) h l =
    let e : p + At.sound + 4 ≡ p + At.x = omega arith in
    subst (λ (q : ℕ). q ≤ 8 * length s) e (ltb-false _ _ (gives_none _ 0 (then_none _ _ (then_none _ _ (then_none _ _ (then_none _ _ h).0).1).0).0))

pub first_object : (s : List ℕ) → Parts s → 0 < (counts_of s).objects → (places_of (counts_of s)).objects + 6 ≤ 8 * length s
first_object s h l = whole_object s (places_of (counts_of s)).objects (counts_of s).objects h.objects l
