-- `object_numbers::kind_of` meets its contract. Assumes nothing.
use Rattle.object_numbers.specs.Single.{kind_of}
use Rattle.object_numbers.proofs.NoKind.{no_kind}
use Rattle.object_numbers.proofs.kind_of.Goals as goal

pub returns-in-0 : goal.returns-in-0
unfolding kind_of
returns-in-0 c = rw c.in-0.is

pub returns-in-1 : goal.returns-in-1
unfolding kind_of
returns-in-1 c = rw (c.in-1.is, c.saturate_u16-repeats.ensures)

pub returns-in-2 : goal.returns-in-2
unfolding kind_of
returns-in-2 c = rw c.in-2.is

pub returns-in-3 : goal.returns-in-3
unfolding kind_of
returns-in-3 c = rw c.in-3.is

pub returns-in_default : goal.returns-in_default
returns-in_default c =
    let k = c.in_default.in_default-own.rest in
    rw (no_kind c.args.kind _ _ _ _ k.0.0.0.1 k.0.0.1 k.0.1 k.1)
