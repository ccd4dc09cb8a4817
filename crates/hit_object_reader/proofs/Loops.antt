-- What the loops over the lines of a text keep: how far the lines are counted, and how far their notes are stored.
-- Assumes nothing.
use Rattle.std.specs.Prelude.{◌≡◌, List, [], ◌∷◌, ℕ, suc, ◌+◌, ◌-◌, ◌≤◌, ◌<◌, length, get_or, take, drop}
use Rattle.std.proofs.Common.{refl, sym, ap, ◌∙◌, arith, length-drop, take_all}
use Rattle.std.proofs.Math.Nat.{sub-zero}
use Rattle.std.proofs.lemmas.List.{nil_from_length}
use Rattle.std.proofs.Math.Option.{Option, none, some, map, some-injective}
use Rattle.chart.specs.declared.Note.{Note}
use Rattle.chart.specs.declared.Version.TheVariants.{One}
use Rattle.chart.specs.Bytes.{splice}
use Rattle.chart.specs.Chart.{blank, body, note_bytes}
use Rattle.chart.specs.Layout.{most_in_chart, chart_size_in}
use Rattle.chart.specs.Order.{rank}
use Rattle.hit_object_lines.specs.Reading.{note_on, notes_on, notes_for}
use Rattle.hit_object_reader.specs.Told.{Columns, count_of, lines_notes}
use Rattle.hit_object_reader.specs.Laws.Texts.{count_from, none_left, text_none, text_next, count_next, count_falls, count_full, count_end, count_first, next_note, stored_note, none_stored}

module _ (columns : ℕ) (s : List ℕ) where
  -- `count` lines are read, of which the last has the note `last`, and `rest` is left
  pub record Counting (last : Note) (count : ℕ) (rest : List ℕ) : Type 0 where
    pub inside : count + length rest ≤ length s
    pub few : count ≤ most_in_chart
    pub on_deck : last.column < 16
    pub same : count_of (notes_for columns s) ≡ count_from (rank last) count (notes_on (length s - count) columns rest)

  pub counting_first : Columns columns → Counting blank 0 s
  unfolding rank
  counting_first h = record { inside = omega arith; few = omega arith; on_deck = omega arith; same = count_first columns h s ∙ rw sub-zero }

  module _ (last : Note) (count : ℕ) (rest : List ℕ) (k : Counting last count rest) where
    pub counting_end : length rest ≡ 0 → some count ≡ count_of (notes_for columns s)
    counting_end l = sym (k.same ∙ rw (nil_from_length rest l, none_left columns (length s - count)) (count_end (rank last) count k.few))

    module _ (more : 0 < length rest) where
      one : length s - count ≡ suc (length s - (count + 1))
      one = omega (arith, k.inside)

      all : count_of (notes_for columns s) ≡ count_from (rank last) count (notes_on (suc (length s - (count + 1))) columns rest)
      all = k.same ∙ ap (λ (n : ℕ). count_from (rank last) count (notes_on n columns rest)) one

      pub counting_full : count ≡ most_in_chart → none ≡ count_of (notes_for columns s)
      counting_full most = sym (all ∙ rw most (count_full (rank last) columns (length s - (most_in_chart + 1)) rest more))

      pub counting_none : note_on columns rest ≡ none → none ≡ count_of (notes_for columns s)
      unfolding count_from
      counting_none e = sym (all ∙ ap (count_from (rank last) count) (text_none columns (length s - (count + 1)) rest more e))

      module _ (n : Note) (r : List ℕ) (e : note_on columns rest ≡ some (n, r)) where
        next : count_of (notes_for columns s) ≡ count_from (rank last) count (map (λ ns. n ∷ ns) (notes_on (length s - (count + 1)) columns r))
        next = all ∙ ap (count_from (rank last) count) (text_next columns (length s - (count + 1)) rest n r more e)

        pub counting_falls : rank n < rank last → none ≡ count_of (notes_for columns s)
        counting_falls l = sym (next ∙ count_falls (rank last) count n (notes_on (length s - (count + 1)) columns r) l)

        pub counting_next : rank last ≤ rank n → count < most_in_chart → n.column < 16 → length r < length rest → Counting n (count + 1) r
        counting_next l below deck shorter =
            record { inside = omega (arith, k.inside); few = omega arith; on_deck = deck; same = next ∙ count_next (rank last) count n (notes_on (length s - (count + 1)) columns r) l }

  -- of the notes of a text i are stored in the chart c₀, which makes it c, and `rest` is left
  pub record Storing (c₀ c : List ℕ) (i : ℕ) (rest : List ℕ) : Type 0 where
    pub inside : i + length rest ≤ length s
    pub left : notes_on (length s - i) columns rest ≡ some (drop i (lines_notes columns s))
    pub stored : c ≡ splice c₀ 8 (body One (take i (lines_notes columns s)))

  module _ (c₀ : List ℕ) (room : chart_size_in One (length (lines_notes columns s)) ≤ length c₀) where
    pub storing_first : notes_on (length s) columns s ≡ some (lines_notes columns s) → Storing c₀ c₀ 0 s
    storing_first e = record { inside = omega arith; left = rw sub-zero e; stored = none_stored c₀ (omega (arith, room)) }

    module _ (c : List ℕ) (i : ℕ) (rest : List ℕ) (k : Storing c₀ c i rest) where
      nothing_left : (o : Option (List Note)) → notes_on (length s - i) columns rest ≡ o → o ≡ some [] → take i (lines_notes columns s) ≡ (lines_notes columns s)
      nothing_left o e is =
          let none : drop i (lines_notes columns s) ≡ [] = some-injective (drop i (lines_notes columns s)) [] (sym k.left ∙ e ∙ is) in
          take_all i (lines_notes columns s) (omega (arith, ap length none, length-drop i (lines_notes columns s)))

      all_stored : (r : List ℕ) → rest ≡ r → note_on columns rest ≡ none → take i (lines_notes columns s) ≡ (lines_notes columns s)
      all_stored [] is e = nothing_left (notes_on (length s - i) columns []) (ap (notes_on (length s - i) columns) is) (none_left columns (length s - i))
      all_stored (b ∷ r) is e =
          let size : length rest ≡ suc (length r) = ap length is in
          let one : length s - i ≡ suc (length s - (i + 1)) = omega (arith, k.inside) in
          let bad : ◌≡◌ {A = Option (List Note)} none (some (drop i (lines_notes columns s))) = sym (rw one (text_none columns (length s - (i + 1)) rest (omega arith) e)) ∙ k.left in
          absurd (let y : ◌≡◌ {A = ℕ} 0 1 = cc in omega arith)

      pub storing_end : note_on columns rest ≡ none → c ≡ splice c₀ 8 (body One (lines_notes columns s))
      storing_end e = k.stored ∙ rw (all_stored rest refl e)

      module _ (n : Note) (r : List ℕ) (e : note_on columns rest ≡ some (n, r)) (shorter : length r < length rest) where
        one_more : length s - i ≡ suc (length s - (i + 1))
        one_more = omega (arith, k.inside)

        stored_next : (i < length (lines_notes columns s)) × ((n ≡ get_or (lines_notes columns s) i blank) × (notes_on (length s - (i + 1)) columns r ≡ some (drop (i + 1) (lines_notes columns s))))
        stored_next = next_note (lines_notes columns s) i n (notes_on (length s - (i + 1)) columns r) (sym (text_next columns (length s - (i + 1)) rest n r (omega arith) e) ∙ (rw one_more at k.left))

        pub storing_room : chart_size_in One (i + 1) ≤ length c₀
        storing_room = omega (arith, stored_next.0, room)

        pub storing_next : (d : List ℕ) → d ≡ splice c (chart_size_in One i) (note_bytes One n) → Storing c₀ d (i + 1) r
        storing_next d is =
            record {
              inside = omega (arith, k.inside);
              left = stored_next.1.1;
              stored = is ∙ rw (k.stored, stored_next.1.0) (stored_note c₀ (lines_notes columns s) i stored_next.0 room);
            }
