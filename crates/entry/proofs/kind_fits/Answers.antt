-- `entry::kind_fits` meets its contract. Assumes nothing.
use mathlib.Core.Logic.{inl, inr}
use lib.Ieee.{round, of_bits}
use Rattle.mania.specs.Single.{kind_fits}
use Rattle.entry.proofs.kind_fits.Goals as goal

pub returns-in-Circle : goal.returns-in-Circle
unfolding kind_fits
returns-in-Circle c = rw c.in-Circle.is

pub returns-in-Slider : goal.returns-in-Slider
unfolding kind_fits
returns-in-Slider c = rw (c.in-Slider.is, c.distance_fits.ensures, c.node_fits.ensures)

pub returns-in-Spinner : goal.returns-in-Spinner
unfolding kind_fits round of_bits
returns-in-Spinner c = elim c.in-Spinner.is [ inl e ↦ rw e c.in_range.ensures | inr e ↦ rw e c.in_range.ensures ]
