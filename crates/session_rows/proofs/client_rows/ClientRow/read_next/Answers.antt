-- A reply is read, and added to the row.
use Rattle.session_rows.proofs.Common.{arith, next_number, rules, ◌≤◌}
use Rattle.session_rows.proofs.RowLaws.{wanting}
use Rattle.session_rows.proofs.ToldLaws.{read_told}
use Rattle.session_rows.proofs.client_rows.ClientRow.read_next.Goals as goal

pub returns-in_err-reply-clause-err : goal.returns-in_err-reply-clause-err
returns-in_err-reply-clause-err c =
    let after : next_number c.args.self.now ≤ c.in-Some.tid = search rules in
    wanting c.from_residual.result c.args.self.now c.args.bytes.now c.from_residual.ensures.1 (record { told = _; there = c.in-Some.ensures; follows = after })

pub returns-in_err-keep-clause-err : goal.returns-in_err-keep-clause-err
returns-in_err-keep-clause-err c =
    let after : next_number c.args.self.now ≤ c.in-Some.tid = search rules in
    wanting c.from_residual-in_err-keep.result c.args.self.now c.args.bytes.now c.from_residual-in_err-keep.ensures.1 (record { told = _; there = c.in-Some.ensures; follows = after })

pub returns-clause-ok : goal.returns-clause-ok
returns-clause-ok c =
    let after : next_number c.args.self.now ≤ c.in-Some.tid = search rules in
    read_told c.args.self.now c.keep.new.self c.args.bytes.now c.in-Some.tid c.in-Some.text.now c.in-Some.rest.now c.in-Some-2.reply (λ i. omega (arith, c.type_inv.bytes i))
    c.in-Some.ensures (rw c.in-Some-2.is at c.in_ok-reply.ensures.spelled) after c.in_ok-keep.ensures
