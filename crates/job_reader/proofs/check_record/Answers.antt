-- `job_reader::check_record` meets its contract: the parts of the row, in its order. Assumes nothing.
use Rattle.std.proofs.Common.{◌≡◌, Ok}
use Rattle.std.proofs.lemmas.Result.{err_from_is_err_and}
use Rattle.record.specs.Header.{counts_of}
use Rattle.record.specs.Object.{scan}
use Rattle.record.specs.Record.{places_of, lists_refusal}
use Rattle.job_reader.proofs.Checks.{check_header, check_lists, check_objects, check_fill, check_accepted}
use Rattle.job_reader.proofs.check_record.Goals as goal
use Rattle.job_reader.proofs.check_record.Goals.{In_ok-lists_refusal, In_ok-end}

-- the lists, by the counts that the header gives
lists-pass : (c : In_ok-lists_refusal) → 0 ≡ lists_refusal c.args.s.now (counts_of c.args.s.now)
lists-pass c = rw c.counts_of-counts.ensures.0 at c.in_ok-lists_refusal.ensures

-- the scan, at the place and the count that the header gives
found-is : (c : In_ok-end) → Ok c.in_ok-end.field-0 ≡ scan c.args.s.now (places_of (counts_of c.args.s.now)).objects (counts_of c.args.s.now).objects
found-is c = rw (c.places_of-places.ensures.0, c.counts_of-counts.ensures.0) at c.in_ok-end.ensures.0

pub returns-in_err-header_refusal : goal.returns-in_err-header_refusal
returns-in_err-header_refusal c =
    let p = err_from_is_err_and c.from_residual.result c.from_residual.ensures.1 in
    rw (p.1, p.2) (check_header _ _ c.in_err-header_refusal.ensures)

pub returns-in_err-lists_refusal : goal.returns-in_err-lists_refusal
returns-in_err-lists_refusal c =
    let p = err_from_is_err_and c.from_residual-in_err-lists_refusal.result c.from_residual-in_err-lists_refusal.ensures.1 in
    rw (p.1, p.2) (check_lists _ c.in_ok-header_refusal.ensures _ (rw c.counts_of-counts.ensures.0 at c.in_err-lists_refusal.ensures))

pub returns-in_err-end : goal.returns-in_err-end
returns-in_err-end c =
    let p = err_from_is_err_and c.from_residual-in_err-end.result c.from_residual-in_err-end.ensures.1 in
    rw (p.1, p.2)
    (check_objects _ c.in_ok-header_refusal.ensures (lists-pass (goal.at.returns-in_err-end c).In_ok-lists_refusal) _ (rw (c.places_of-places.ensures.0, c.counts_of-counts.ensures.0) at c.in_err-end.ensures.0))

pub returns-in_err-fill_refusal : goal.returns-in_err-fill_refusal
returns-in_err-fill_refusal c =
    let p = err_from_is_err_and c.from_residual-in_err-fill_refusal.result c.from_residual-in_err-fill_refusal.ensures.1 in
    let at = goal.at.returns-in_err-fill_refusal c in
    rw (p.1, p.2) (check_fill _ c.in_ok-header_refusal.ensures (lists-pass at.In_ok-lists_refusal) _ (found-is at.In_ok-end) _ c.in_err-fill_refusal.ensures)

pub returns : goal.returns
returns c =
    let at = goal.at.returns c in
    rw (c.keys_of-keys.ensures, c.settings_of-settings.ensures, c.first_start-first.ensures, c.places_of-places.ensures.0, c.counts_of-counts.ensures.0)
    (check_accepted _ c.in_ok-header_refusal.ensures (lists-pass at.In_ok-lists_refusal) _ (found-is at.In_ok-end) c.in_ok-fill_refusal.ensures)
