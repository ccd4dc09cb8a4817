-- `hit_object_reader::deck::Deck::column_of` meets its contract. Assumes nothing.
use Rattle.std.proofs.Common.{refl, arith}
use Rattle.hit_object_lines.specs.Reading.{column_of}
use Rattle.hit_object_reader.proofs.deck.Deck.column_of.Goals as goal

pub returns : goal.returns
unfolding column_of
returns c = rw (c.min.ensures, c.from-wide.ensures) (refl, omega (arith, c.args.self.fits.low))
