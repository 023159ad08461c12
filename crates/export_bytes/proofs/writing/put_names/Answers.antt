-- One item more is written.
use Rattle.export_bytes.proofs.Common.{is_sent_name, name_bytes}
use Rattle.export_bytes.proofs.Items.{first_sent, later_sent, one_put}
use Rattle.export_bytes.proofs.writing.put_names.Goals as goal

pub put_name-requires : goal.put_name-requires
put_name-requires c = first_sent is_sent_name c.args.names.now c.loop-name.name-index c.name-item.result c.loop-name-test.true c.name-item.is c.loop-name.invariant.sent

pub loop-name-preserved : goal.loop-name-preserved
loop-name-preserved c = record {
  sent = later_sent is_sent_name c.args.names.now c.loop-name.name-index c.name-item.result c.loop-name-test.true c.name-item.is c.loop-name.invariant.sent;
  parts = one_put name_bytes c.args.names.now c.loop-name.name-index c.name-item.result c.loop-name-test.true c.name-item.is _ _ _ c.loop-name.invariant.parts c.in_ok-put_name.ensures;
}
