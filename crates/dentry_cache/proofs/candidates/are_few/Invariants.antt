-- So many children are there, with so many entries together, which are few.
use Rattle.dentry_cache.proofs.Common.{Some, sizes_of, together, ◌<◌, ◌≡◌}
use Rattle.dentry_cache.proofs.candidates.are_few.Given as goal

abbrev pub invariant-loop-i : goal.invariant-loop-i
invariant-loop-i l = record {
  told : together (sizes_of l.places.entries) l.whole l.i ≡ Some l.total;
  few : l.total < 50;
}
