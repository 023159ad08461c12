use Rattle.subtree_map.proofs.ListsLaws.{none_first, none_more}
use Rattle.subtree_map.proofs.lists.empty_lists.Goals as goal

pub loop-init : goal.loop-init
loop-init c = none_first c.in_ok-lists.lists.items c.in_ok-lists.ensures.items

pub loop-preserved : goal.loop-preserved
loop-preserved c = none_more c.loop.counter c.loop.lists.items c.push.new.self.items c.new.result c.loop.invariant c.in_ok-push.ensures.items c.new.ensures.empty
