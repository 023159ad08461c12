-- As many children as were passed, each with no names.
use Rattle.dentry_cache.proofs.Common.{Each, IsBare, length, ◌≡◌}
use Rattle.dentry_cache.proofs.parts.bare_parts.Given as goal

abbrev pub invariant-loop-i : goal.invariant-loop-i
invariant-loop-i l = record {
  count : length l.parts.items ≡ l.i;
  each : Each (IsBare l.frag l.nb l.generation) l.parts.items;
}
