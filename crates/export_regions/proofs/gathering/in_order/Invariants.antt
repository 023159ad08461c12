-- The fragments so far, and those to come, are all, and each may be sent.
use Rattle.export_regions.proofs.Common.{AreSendable, contents, is_sent_frag, leaf_cmp, length, list_all, true, values, ◌++◌, ◌≡◌}
use Rattle.std.specs.FinMap as map
use Rattle.export_regions.proofs.gathering.in_order.Given as goal

abbrev pub invariant-loop-frag : goal.invariant-loop-frag
invariant-loop-frag l = record {
  all : l.frags.items ++ values (contents leaf_cmp l.sent) ≡ values (contents leaf_cmp l.fn.sent);
  sent : list_all is_sent_frag l.frags.items ≡ true;
  to_come : AreSendable (contents leaf_cmp l.sent);
}

abbrev pub decreases-loop-frag : goal.decreases-loop-frag
decreases-loop-frag l = length (map.entries (contents leaf_cmp l.sent))
