use Rattle.mdcache.proofs.Common.{Core, HasRoom, KeepsNone, None, Some, ap, here, leaf_of, none_with_mark, subst, sym, ◌∙◌}
use Rattle.mdcache.proofs.ChangeSteps.{room_left}
use Rattle.mdcache.proofs.mdcache.MdCache.pass.Goals as goal

pub put-requires-clause-room : goal.put-requires-clause-room
put-requires-clause-room g c = subst (λ (k : Core). HasRoom (here k.caches c.args.to.at.rank.0 (leaf_of c.args.to.at))) (sym c.relocate.ensures)
    (subst (λ (k : Core). HasRoom (here k.caches c.args.to.at.rank.0 (leaf_of c.args.to.at))) (sym c.entry_moves.ensures)
    (subst (λ (k : Core). HasRoom (here k.caches c.args.to.at.rank.0 (leaf_of c.args.to.at))) (sym c.erase.ensures)
    (room_left c.args.self.now.caches c.args.from.at.rank.0 c.args.to.at.rank.0 (leaf_of c.args.from.at) (leaf_of c.args.to.at) c.args.from.name (record { version = c.args.self.now.next_version; inode = None }) c.requires.source c.requires.target)))

pub remove_dir-requires-clause-none : goal.remove_dir-requires-clause-none
remove_dir-requires-clause-none g c =
    none_with_mark c.relocate.new.self.caches c.put.new.self.caches c.args.to.at.rank.0 (leaf_of c.args.to.at) c.args.to.name (record { version = c.relocate.new.self.next_version; inode = Some c.args.inode })
    (subst KeepsNone (sym (ap (λ (k : Core). k.caches) c.relocate.ensures ∙ ap (λ (k : Core). k.caches) c.entry_moves.ensures))
    (none_with_mark c.args.self.now.caches c.erase.new.self.caches c.args.from.at.rank.0 (leaf_of c.args.from.at) c.args.from.name (record { version = c.args.self.now.next_version; inode = None }) c.requires.none (ap (λ (k : Core). k.caches) c.erase.ensures)))
    (ap (λ (k : Core). k.caches) c.put.ensures)
