-- `hit_object_reader::digits::number` meets its contract. Assumes nothing.
use Rattle.std.proofs.Common.{sym, ◌∙◌}
use Rattle.std.proofs.lemmas.List.{nil_from_length}
use Rattle.hit_object_reader.specs.Laws.Parts.{digit_same, number_end, number_zero, number_sign, number_large, number_is}
use Rattle.hit_object_reader.proofs.digits.number.Goals as goal

pub returns-in_err-c-clause-value : goal.returns-in_err-c-clause-value
returns-in_err-c-clause-value c = rw (c.from_residual.ensures, nil_from_length _ c.in_err-c.ensures.cases) number_end

pub returns-then-c-eq48-clause-value : goal.returns-then-c-eq48-clause-value
returns-then-c-eq48-clause-value c =
    let g = c.in_ok-c in
    rw g.ensures.cases.0 (number_zero g.c.now g.tail.now c.if-c-eq48.true)

pub returns-then-not-is_ascii_digit-clause-value : goal.returns-then-not-is_ascii_digit-clause-value
returns-then-not-is_ascii_digit-clause-value c =
    let g = c.in_ok-c in
    let bad = sym (digit_same g.c.now) ∙ sym c.is_ascii_digit.ensures.value ∙ c.if-not-is_ascii_digit.true in
    rw g.ensures.cases.0 (number_sign g.c.now g.tail.now c.if-c-eq48.false bad)

pub returns-then-value-gt-LATEST_END-clause-value : goal.returns-then-value-gt-LATEST_END-clause-value
returns-then-value-gt-LATEST_END-clause-value c =
    let g = c.in_ok-c in
    let d = c.digits_on-value in
    let good = sym (digit_same g.c.now) ∙ sym c.is_ascii_digit.ensures.value ∙ c.if-not-is_ascii_digit.false in
    let run = rw c.from.ensures at d.ensures.value in
    rw g.ensures.cases.0 (number_large g.c.now g.tail.now c.if-c-eq48.false d.result.0 d.result.1.now good run c.if-value-gt-LATEST_END.true)

pub returns-clause-value : goal.returns-clause-value
returns-clause-value c =
    let g = c.in_ok-c in
    let d = c.digits_on-value in
    let good = sym (digit_same g.c.now) ∙ sym c.is_ascii_digit.ensures.value ∙ c.if-not-is_ascii_digit.false in
    let run = rw c.from.ensures at d.ensures.value in
    rw g.ensures.cases.0 (number_is g.c.now g.tail.now c.if-c-eq48.false d.result.0 d.result.1.now good run c.if-value-gt-LATEST_END.false)
