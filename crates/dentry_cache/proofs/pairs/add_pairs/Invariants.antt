-- The pairs to come are as good as all of them, and add what all of them add.
use Rattle.dentry_cache.proofs.Common.{added, are_good, contents, drop, key_cmp, ◌≡◌}
use Rattle.dentry_cache.proofs.pairs.add_pairs.Given as goal

abbrev pub invariant-loop-key : goal.invariant-loop-key
invariant-loop-key l = record {
  good : are_good l.frag (drop l.key-index l.pairs) ≡ are_good l.fn.frag l.fn.pairs;
  whole : added (contents key_cmp l.names) (drop l.key-index l.pairs) ≡ added (contents key_cmp l.fn.names) l.fn.pairs;
}
