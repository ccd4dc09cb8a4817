-- A list lookup in a chart that was read: times that are refused, and times that are taken.
-- Assumes nothing.
use Rattle.std.specs.Prelude.{◌≡◌, true, false, ◌&&◌, List, ℕ, Float, Ok}
use Rattle.std.proofs.Math.Bool.{and-false}
use Rattle.std.specs.Float.Ieee.{lt}
use Rattle.std.specs.Float.Ieee.Scale.{finite}
use Rattle.std.proofs.Math.Path.{refl}
use Rattle.rules.specs.Numbers as Numbers
use Rattle.chart.specs.declared.Header.{Header}
use Rattle.chart.specs.Chart.{decode, meaning, reading, notes_in}
use Rattle.chart_lookup.specs.Lookup.{Wanted, Starting, refused, times_ok, wanted, places, given, listed, listing}
use Rattle.chart_lookup.specs.Laws.Notes.{read_notes_law}

module _ (from to : Float) where
  pub from_off : finite from ≡ false → times_ok (Starting from to) ≡ false
  unfolding times_ok
  from_off h = rw h refl

  pub to_off : finite to ≡ false → times_ok (Starting from to) ≡ false
  unfolding times_ok
  to_off h = rw (h, and-false (finite from)) refl

  pub out_of_order : lt to from ≡ true → times_ok (Starting from to) ≡ false
  unfolding times_ok
  out_of_order h = rw (h, and-false (finite from && finite to)) refl

  pub in_order : finite from ≡ true → finite to ≡ true → lt to from ≡ false → times_ok (Starting from to) ≡ true
  unfolding times_ok
  in_order h k l = rw (h, k, l) refl

module _ (s : List ℕ) (header : Header) (read : meaning (Ok header) ≡ reading s) (w : Wanted) (list : List ℕ) where
  in_chart : listed w (notes_in s) list ≡ listing s w list
  unfolding reading listing
  in_chart = (read_notes_law (decode s) header.version header.columns header.notes header.draws read).1 w list

  pub times_refused : times_ok w ≡ false → (refused Numbers.times, list) ≡ listing s w list
  unfolding listed
  times_refused h = rw h at in_chart

  pub times_taken : times_ok w ≡ true → given (places (wanted w) 0 (notes_in s)) list ≡ listing s w list
  unfolding listed
  times_taken h = rw h at in_chart
