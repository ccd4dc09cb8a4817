-- `job_text::put_shown` meets its contract. The chart buffer's length is by the lemma: to compute it takes a step for each byte. Assumes nothing.
use native.Mathlib.Omega.{arith}
use Rattle.text.specs.Text.{ascii}
use Rattle.job_text.specs.Printed.{zeros}
use Rattle.job_text.proofs.Ended.{converted, too_long}
use Rattle.job_text.proofs.put_shown.Goals as goal

pub returns-then-input-gt-LONGEST_RECORD : goal.returns-then-input-gt-LONGEST_RECORD
unfolding ascii
returns-then-input-gt-LONGEST_RECORD g c =
    rw (too_long g.S.Show.shown c.args.input.now (omega arith)) (record { value = (c.put_word.ensures.value, omega (arith, c.put_word.ensures.value, c.requires, g.met.S.Show.line_room)); s_after = c.put_word.ensures.s_after })

pub returns : goal.returns
unfolding zeros
returns g c =
    let put = c.put_job in
    rw (converted g.S.Show.shown c.args.input.now (omega arith)) (record { value = put.ensures.value; s_after = put.ensures.s_after })
