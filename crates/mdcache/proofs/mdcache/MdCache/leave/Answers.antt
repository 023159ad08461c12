use Rattle.mdcache.proofs.Common.{Core, KeepsNone, None, ap, leaf_of, none_with_mark, subst, sym}
use Rattle.mdcache.proofs.mdcache.MdCache.leave.Goals as goal

pub remove_dir-requires-clause-none : goal.remove_dir-requires-clause-none
remove_dir-requires-clause-none g c =
    subst KeepsNone (sym (ap (λ (k : Core). k.caches) c.entry_goes.ensures)) (none_with_mark c.args.self.now.caches c.erase.new.self.caches c.args.spot.at.rank.0 (leaf_of c.args.spot.at) c.args.spot.name (record { version = c.args.self.now.next_version; inode = None }) c.requires.none (ap (λ (k : Core). k.caches) c.erase.ensures))
