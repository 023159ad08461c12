-- One client more.
use Rattle.session_rows.proofs.Common.{arith}
use Rattle.sessions.specs.Rooms.{table}
use Rattle.session_rows.proofs.StoreLaws.{all_clients, next_client}
use Rattle.session_rows.proofs.storing.client_edits.Goals as goal

pub loop-client-preserved : goal.loop-client-preserved
loop-client-preserved c =
    next_client c.args.history.now (table c.args.sessions.now) c.changed-client-items.result.now c.args.sessions.now.changed c.loop-client.client-index c.loop-client.edits.items c.push.new.self.items c.in_ok-client_edit.field-0
    c.changed-client-items.ensures c.loop-client-test.true (omega (arith, c.type_inv.client-items c.loop-client.client-index)) c.in_ok-client_edit.ensures.key c.in_ok-client_edit.ensures.value c.in_ok-client_edit.ensures.storable
    c.in_ok-push.ensures.items c.loop-client.invariant

pub returns : goal.returns
returns c =
    all_clients c.args.history.now (table c.args.sessions.now) c.changed-client-items.result.now c.args.sessions.now.changed c.loop-client.client-index c.loop-client.edits.items c.changed-client-items.ensures
    (omega (arith, c.loop-client-test.false)) c.loop-client.invariant
