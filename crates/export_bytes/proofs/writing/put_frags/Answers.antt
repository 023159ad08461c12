-- One item more is written.
use Rattle.export_bytes.proofs.Common.{frag_bytes, is_sent_frag}
use Rattle.export_bytes.proofs.Items.{first_sent, later_sent, one_put}
use Rattle.export_bytes.proofs.writing.put_frags.Goals as goal

pub put_frag-requires : goal.put_frag-requires
put_frag-requires c = first_sent is_sent_frag c.args.frags.now c.loop-frag.frag-index c.frag-item.result c.loop-frag-test.true c.frag-item.is c.loop-frag.invariant.sent

pub loop-frag-preserved : goal.loop-frag-preserved
loop-frag-preserved c = record {
  sent = later_sent is_sent_frag c.args.frags.now c.loop-frag.frag-index c.frag-item.result c.loop-frag-test.true c.frag-item.is c.loop-frag.invariant.sent;
  parts = one_put frag_bytes c.args.frags.now c.loop-frag.frag-index c.frag-item.result c.loop-frag-test.true c.frag-item.is _ _ _ c.loop-frag.invariant.parts c.in_ok-put_frag.ensures;
}
