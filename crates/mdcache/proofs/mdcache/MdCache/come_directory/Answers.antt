use Rattle.mdcache.proofs.Common.{Core, None, Some, ap, first_leaf, has_place, here, leaf_of, subst, sym, true, with_entry_counted, ◌∙◌, ◌≡◌}
use Rattle.std.specs.FinMap as map
use Rattle.mdcache.proofs.ChangeSteps.{kept_named, roomy_there}
use Rattle.mdcache.proofs.mdcache.MdCache.come_directory.Goals as goal

pub add_dir-requires-clause-place : goal.add_dir-requires-clause-place
add_dir-requires-clause-place g c = subst (λ (k : Core). has_place k.caches c.args.spot.at.rank.0 (first_leaf c.args.inode.ino) ≡ true) (sym (c.entry_comes.ensures ∙ ap (λ (k : Core). with_entry_counted k c.args.spot.at.dir) c.put.ensures))
    (kept_named c.args.self.now c.args.spot.at c.args.spot.name (Some c.args.inode)
    (roomy_there (here c.args.self.now.caches c.args.spot.at.rank.0 (leaf_of c.args.spot.at)) c.requires.room) (first_leaf c.args.inode.ino) c.requires.place c.requires.there).0

pub add_dir-requires-clause-absent : goal.add_dir-requires-clause-absent
add_dir-requires-clause-absent g c = subst (λ (k : Core). map.get k.caches.held (first_leaf c.args.inode.ino) ≡ None) (sym (c.entry_comes.ensures ∙ ap (λ (k : Core). with_entry_counted k c.args.spot.at.dir) c.put.ensures))
    (kept_named c.args.self.now c.args.spot.at c.args.spot.name (Some c.args.inode)
    (roomy_there (here c.args.self.now.caches c.args.spot.at.rank.0 (leaf_of c.args.spot.at)) c.requires.room) (first_leaf c.args.inode.ino) c.requires.place c.requires.there).1
