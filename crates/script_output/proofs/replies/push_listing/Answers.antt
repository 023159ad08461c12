use Rattle.script_output.proofs.Common.{flat_map, listed_text, take}
use Rattle.script_output.proofs.PushLemmas.{stopped}
use Rattle.script_output.proofs.replies.push_listing.Goals as goal

pub returns-in_err-push_listed : goal.returns-in_err-push_listed
returns-in_err-push_listed c = stopped c.args.out.now.items c.loop-entry.out.items c.push_listed.new.out.items (flat_map listed_text (take c.loop-entry.entry-index c.args.list.now)) (flat_map listed_text c.args.list.now) c.from_residual.result c.from_residual.ensures.0 (rw c.as_slice-entry-items.ensures at c.loop-entry.invariant) c.in_err-push_listed.ensures
