-- One name more is written.
use Rattle.reply_codec.proofs.Common.{IsListed, listed_bytes}
use Rattle.reply_codec.proofs.Items.{one_known, one_put}
use Rattle.reply_codec.proofs.writing.put_list.Goals as goal

pub loop-entry-preserved : goal.loop-entry-preserved
loop-entry-preserved c = record {
  known = λ all. c.loop-entry.invariant.known (one_known IsListed c.args.list.now c.loop-entry.entry-index c.entry-item.result c.loop-entry-test.true c.entry-item.is c.in_ok-put_listed.ensures.0 all);
  parts = one_put listed_bytes c.args.list.now c.loop-entry.entry-index c.entry-item.result c.loop-entry-test.true c.entry-item.is _ _ _ c.loop-entry.invariant.parts c.in_ok-put_listed.ensures.1;
}
