-- What is a bound is one of the roots to come, or was put on the list, which goes on in order with the roots to come.
use Rattle.subtree_map.proofs.Common.{IsBound, IsNextBelow, IsSome, IsStrictlySortedBy, Leaf, find, leaf_cmp, ◌++◌, ◌↔◌, ◌⊎◌}
use Rattle.std.specs.List as list
use Rattle.subtree_map.proofs.Rising.{keys}
use Rattle.subtree_map.proofs.subtrees.Subtrees.bounds.Given as goal

abbrev pub invariant-loop-row : goal.invariant-loop-row
invariant-loop-row l = record {
  listed : (bound : Leaf) → ((IsSome (find leaf_cmp bound l.row-iterator) × IsNextBelow l.self.roots l.dirs.homes l.dirs.trees (l.dir, l.frag) bound) ⊎ list.Contains l.bounds.items bound) ↔ IsBound l.self.roots l.dirs.homes l.dirs.trees (l.dir, l.frag) bound;
  rise : IsStrictlySortedBy leaf_cmp (l.bounds.items ++ keys l.row-iterator);
}
