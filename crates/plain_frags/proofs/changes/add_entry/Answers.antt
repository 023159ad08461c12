use Rattle.plain_frags.proofs.Common.{added_tabled, leaves_same, may_come}
use Rattle.plain_frags.proofs.changes.add_entry.Goals as goal

pub adopt_dir-requires-clause-may : goal.adopt_dir-requires-clause-may
adopt_dir-requires-clause-may c kinded = may_come _ _ c.args.dentry c.args.inode c.requires.tabled c.requires.may

pub returns-clause-tabled : goal.returns-clause-tabled
returns-clause-tabled c = rw (c.insert.ensures.inserted, c.adopt_dir.ensures.homes) (added_tabled _ _ c.args.dentry c.args.inode c.requires.tabled c.requires.may)

pub returns-clause-leaves : goal.returns-clause-leaves
returns-clause-leaves c = leaves_same _ _ _ c.adopt_dir.ensures.trees
