-- One row more is read.
use Rattle.session_rows.proofs.Common.{IsErrAnd, ◌∙◌, ◌≡◌, rules}
use Rattle.session_rows.proofs.RestoreLaws.{next_may, pair_of, read_first, read_one, refused_all, refused_one}
use Rattle.session_rows.proofs.restoring.restore.Goals as goal

pub loop-key-init : goal.loop-key-init
loop-key-init c = read_first c.args.rows.now c.new.result c.into_iter-key-iterator.result c.new.ensures.empty c.new.ensures.changed (c.into_iter-key-iterator.ensures.into_iter_gives ∙ c.iter-key-items.ensures)

pub read_row-requires : goal.read_row-requires
read_row-requires c =
    let next = pair_of c.loop-key.key-iterator c.next.new.self c.in-Some.field-0.now c.as_slice.result.now c.as_slice-in-loop-key.result.now c.in-Some.ensures.steps c.as_slice.ensures c.as_slice-in-loop-key.ensures in
    next_may c.args.rows.now c.loop-key.restored c.loop-key.key-iterator c.next.new.self c.as_slice.result.now c.as_slice-in-loop-key.result.now c.loop-key.invariant next

pub loop-key-preserved : goal.loop-key-preserved
loop-key-preserved c =
    let next = pair_of c.loop-key.key-iterator c.next.new.self c.in-Some.field-0.now c.as_slice.result.now c.as_slice-in-loop-key.result.now c.in-Some.ensures.steps c.as_slice.ensures c.as_slice-in-loop-key.ensures in
    read_one c.args.rows.now c.loop-key.restored c.loop-key.key-iterator c.next.new.self c.as_slice.result.now c.as_slice-in-loop-key.result.now c.loop-key.invariant next c.read_row.new.self c.in_ok-read_row.ensures.read

pub returns-in_err-read_row : goal.returns-in_err-read_row
returns-in_err-read_row c =
    let next = pair_of c.loop-key.key-iterator c.next.new.self c.in-Some.field-0.now c.as_slice.result.now c.as_slice-in-loop-key.result.now c.in-Some.ensures.steps c.as_slice.ensures c.as_slice-in-loop-key.ensures in
    let is : IsErrAnd c.from_residual.result (λ f. f ≡ c.in_err-read_row.field-0.0) = search rules in
    refused_all c.args.rows.now c.from_residual.result c.in_err-read_row.field-0.0 is
    (refused_one c.args.rows.now c.loop-key.restored c.loop-key.key-iterator c.next.new.self c.as_slice.result.now c.as_slice-in-loop-key.result.now c.loop-key.invariant next c.in_err-read_row.field-0.0 c.in_err-read_row.ensures.refused)
