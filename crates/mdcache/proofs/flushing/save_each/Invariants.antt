-- So far some trees are saved; those of other directories are to come.
use Rattle.mdcache.proofs.Common.{HasTree, Ino, IsSoundCore, SavesTrees, eq_by_cmp, is_some, length, list_any, nat_cmp, state_of, trees_after, true, ◌≡◌, ◌⊎◌}
use Rattle.std.specs.FinMap as map
use Rattle.mdcache.proofs.flushing.save_each.Given as goal

abbrev pub invariant-loop-dir : goal.invariant-loop-dir
invariant-loop-dir g l = record {
  saved : SavesTrees (state_of l.initial.tree) (state_of l.tree);
  done : (d : Ino) → is_some (map.get l.tree.covers d.0) ≡ true → (list_any (eq_by_cmp nat_cmp d.0) (trees_after l.tree.homes l.tree.covers l.last) ≡ true) ⊎ HasTree (state_of l.tree) d;
  caches : l.tree.caches ≡ l.initial.tree.caches;
  faults : l.tree.faults ≡ l.initial.tree.faults;
  idle : l.initial.tree.covers ≡ map.empty → l.tree ≡ l.initial.tree;
  sound : IsSoundCore l.tree;
}

abbrev pub decreases-loop-dir : goal.decreases-loop-dir
decreases-loop-dir g l = length (trees_after l.tree.homes l.tree.covers l.last)
