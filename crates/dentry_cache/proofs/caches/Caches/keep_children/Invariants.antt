-- A place is kept for each child that was passed, and places for the others are free or can become so.
use Rattle.dentry_cache.proofs.Common.{KeepsChildren, Some, ◌^◌}
use Rattle.dentry_cache.proofs.ChildLaws.{AreKeeping}
use Rattle.dentry_cache.proofs.RoomLaws.{CanKeepOn}
use Rattle.dentry_cache.proofs.caches.Caches.keep_children.Given as goal

abbrev pub invariant-loop-i : goal.invariant-loop-i
invariant-loop-i l = record {
  keeping : AreKeeping l.at.rank.0 l.at.dir l.at.frag l.bits l.i l.fn.self l.self;
  keeps : KeepsChildren l.at.rank.0 l.at.dir l.at.frag l.bits l.i l.fn.self l.self;
  can : CanKeepOn l.i (2 ^ l.bits) l.self l.at.rank.0 (Some (l.at.dir, l.at.frag));
}
