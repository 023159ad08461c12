use Rattle.plain_frags.proofs.Common.{set_tabled}
use Rattle.plain_frags.proofs.changes.set_entry.Goals as goal

pub returns-clause-tabled : goal.returns-clause-tabled
returns-clause-tabled c = rw c.replace.ensures.inserted (set_tabled _ _ c.args.dentry.now c.args.inode c.requires.tabled c.requires.may)
