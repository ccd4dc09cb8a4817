-- `hit_object_reader::digits::digits_on` meets its contract. The invariant: the digits that `rest` begins with finish the number. The measure is the number of bytes left. Assumes nothing.
use Rattle.std.proofs.Common.{sym, ◌∙◌, arith}
use Rattle.std.proofs.lemmas.List.{nil_from_length}
use Rattle.hit_object_reader.specs.Laws.Parts.{digit_same, digits_end, digits_next, digits_stop}
use Rattle.hit_object_reader.proofs.digits.digits_on.Goals as goal
use Rattle.hit_object_reader.proofs.digits.digits_on.Goals.{in-None-1, in-Some+else-is_ascii_digit}

pub with_digit-value-requires : goal.with_digit-value-requires
with_digit-value-requires c = (c.loop-c.invariant.few, sym (digit_same c.in-Some.c.now) ∙ sym c.is_ascii_digit.ensures.value ∙ c.if-is_ascii_digit.true)

pub loop-c-preserved : goal.loop-c-preserved
loop-c-preserved c =
    let l = c.loop-c in
    let g = c.in-Some in
    let good = sym (digit_same g.c.now) ∙ sym c.is_ascii_digit.ensures.value ∙ c.if-is_ascii_digit.true in
    record {
      few = c.with_digit-value.ensures.1;
      left = omega (arith, g.ensures.cases.1, l.invariant.left);
      same = l.invariant.same ∙ rw (g.ensures.cases.0, c.with_digit-value.ensures.0) (digits_next l.value g.c.now g.tail.now good);
    }

pub returns-clause-value : goal.returns-clause-value
returns-clause-value c =
    let l = c.loop-c in
    elim c.match-split_first.branch [
      | in-None-1 w ↦ rw (l.invariant.same, nil_from_length l.rest.now w.in-None-1.ensures.0) (digits_end l.value)
      | in-Some+else-is_ascii_digit w ↦
          let g = w.in-Some in
          let bad = sym (digit_same g.c.now) ∙ sym w.is_ascii_digit.ensures.value ∙ w.if-is_ascii_digit.false in
          rw g.ensures.cases.0 (digits_stop l.value g.c.now g.tail.now bad) ∙ sym l.invariant.same
    ]
