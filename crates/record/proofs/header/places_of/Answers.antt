-- `record::header::places_of` meets its contract. Assumes nothing.
use mathlib.Core.Path.{refl}
use Rattle.record.specs.Record.{places_of}
use Rattle.record.specs.Laws.Counts.{near_places}
use Rattle.record.proofs.header.places_of.Goals as goal

pub returns : goal.returns
unfolding places_of
returns c = (refl, near_places _ c.requires)
