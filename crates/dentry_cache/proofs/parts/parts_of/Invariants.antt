-- Each child has room for those names that were passed.
use Rattle.dentry_cache.proofs.Common.{Each, length, rows_left, shown_names, ◌^◌, ◌≡◌}
use Rattle.std.specs.FinMap as map
use Rattle.dentry_cache.proofs.PartLaws.{IsRoomy}
use Rattle.dentry_cache.proofs.parts.parts_of.Given as goal

abbrev pub invariant-loop-name : goal.invariant-loop-name
invariant-loop-name l = record {
  count : length l.items.items ≡ 2 ^ l.nb;
  each : Each (IsRoomy l.frag l.nb l.generation (map.entries (shown_names l.fragment)) (rows_left l.rows)) l.items.items;
}

abbrev pub decreases-loop-name : goal.decreases-loop-name
decreases-loop-name l = length (rows_left l.rows)
