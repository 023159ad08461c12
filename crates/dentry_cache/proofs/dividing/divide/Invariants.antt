-- Each child has those of its names which were given, and room for the others.
use Rattle.dentry_cache.proofs.Common.{AreEntries, EachThen, contents, key_cmp, length, ◌≡◌}
use Rattle.std.specs.FinMap as map
use Rattle.dentry_cache.proofs.PartLaws.{IsFilling}
use Rattle.dentry_cache.proofs.dividing.divide.Given as goal

abbrev pub invariant-loop-pair : goal.invariant-loop-pair
invariant-loop-pair l = record {
  count : length l.parts.items ≡ length l.fn.parts.items;
  each : EachThen (IsFilling l.frag l.nb (contents key_cmp l.fn.names) (contents key_cmp l.names) l.version) l.fn.parts.items l.parts.items;
  entries : AreEntries (contents key_cmp l.names);
}

abbrev pub decreases-loop-pair : goal.decreases-loop-pair
decreases-loop-pair l = map.len (contents key_cmp l.names)
