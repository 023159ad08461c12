-- The names of the leaves that were passed are in the fragment, and those leaves are the ones that were read.
use Rattle.mdcache.proofs.Common.{IsAmong, IsSoundCore, KeepsNone, List, NoneEnds, ReadsCore, drop, leaves_in, name_joined, names_of, unclean, ℕ, ◌≡◌}
use Rattle.std.specs.FinMap as map
use Rattle.mdcache.proofs.mdcache.MdCache.join_leaves.Given as goal

abbrev pub invariant-loop-part : goal.invariant-loop-part
invariant-loop-part g l = record {
  reads : ReadsCore (IsAmong l.at.rank.0 (leaves_in l.at.dir l.leaves)) NoneEnds l.fn.self l.self;
  sound : IsSoundCore l.self;
  none : KeepsNone l.self.caches;
  faults : l.self.faults ≡ l.fn.self.faults;
  base : l.joined.base ≡ l.fn.joined.base;
  generation : l.joined.generation ≡ l.fn.joined.generation;
  dirty : (name : List ℕ) → name_joined (names_of (unclean l.fn.self.caches) l.fn.self.objects) l.fn.self.next_version (leaves_in l.at.dir (drop l.part-index l.leaves)) name (map.get l.joined.dirty name)
      ≡ name_joined (names_of (unclean l.fn.self.caches) l.fn.self.objects) l.fn.self.next_version (leaves_in l.at.dir l.leaves) name (map.get l.fn.joined.dirty name);
}
