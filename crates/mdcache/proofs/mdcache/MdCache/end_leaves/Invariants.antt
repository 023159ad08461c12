-- The leaves to come make of all that is left what all leaves make of all that was, and the list has room for their names.
use Rattle.mdcache.proofs.Common.{KeepsNone, Rooms, drop, leaves_in, length, without_frags, ◌≡◌, ◌≤◌}
use Rattle.mdcache.proofs.mdcache.MdCache.end_leaves.Given as goal

abbrev pub invariant-loop-leaf : goal.invariant-loop-leaf
invariant-loop-leaf g l = record {
  ended : (room : Rooms) → without_frags l.self (leaves_in l.dir (drop l.leaf-index l.leaves)) room ≡ without_frags l.fn.self (leaves_in l.dir l.leaves) room;
  room : length (drop l.leaf-index l.leaves) ≤ l.self.room.purge;
  none : KeepsNone l.self.caches;
}
