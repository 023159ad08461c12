use Rattle.plain_frags.proofs.Common.{contents, dentry_cmp, leaves_kept, may_drop, removed_tabled, sym}
use Rattle.plain_frags.proofs.changes.remove_entry.Goals as goal

pub drop_dir-requires : goal.drop_dir-requires
drop_dir-requires c = may_drop _ _ c.args.dentry.now _ (sym c.get.ensures) c.requires.tabled c.requires.may

pub returns-clause-tabled : goal.returns-clause-tabled
returns-clause-tabled c = rw (c.remove.ensures.removed, c.drop_dir.ensures.homes) (removed_tabled _ _ c.args.dentry.now _ (sym c.get.ensures) c.requires.tabled c.requires.may)

pub returns-clause-leaves : goal.returns-clause-leaves
returns-clause-leaves c =
    leaves_kept (contents dentry_cmp c.args.entries.now) _ _ _ _ _ c.args.dentry.now _
    (rw (c.remove.ensures.removed, c.drop_dir.ensures.homes) (removed_tabled _ _ c.args.dentry.now _ (sym c.get.ensures) c.requires.tabled c.requires.may))
    c.requires.tabled.whole c.get.ensures c.drop_dir.ensures.homes c.drop_dir.ensures.trees
