-- `hit_object_type::get_random_note_count` meets its contract. Assumes nothing.
use mathlib.Core.Path.{◌≡◌}
use Rattle.std.specs.Prelude.{if◌then◌else◌}
use lib.Ieee.{round, of_bits}
use Rattle.mania.specs.Steps.{double}
use Rattle.mania.specs.HitObject.{count_of}
use Rattle.hit_object_type.proofs.get_random_note_count.Goals as goal
use Rattle.hit_object_type.proofs.get_random_note_count.Goals.{then-clap, else-clap}

pub returns : goal.returns
unfolding count_of round of_bits
returns c =
    let p : c.if-clap.p2 ≡ (if c.has_flag-clap.result then double 1 1 else c.capped-c.result.p2) =
    elim c.if-clap.branch [ then-clap w ↦ rw w.if-clap.true w.p2-is | else-clap w ↦ rw w.if-clap.false w.p2-is ] in
    rw (← c.capped-c.ensures, ← c.has_flag-clap.ensures, ← p) c.get_random_note_count.ensures
