-- The pairs of the maps are the entries of the trees.
use Rattle.cluster_core.proofs.Common.{dentry_cmp, entries-contents, inode_decides}
use Rattle.cluster_core.proofs.plain_trees.PlainTreePartialEq.eq.Goals as goal

pub returns-clause-value : goal.returns-clause-value
returns-clause-value c =
    rw (← c.self.view_is, ← c.other.view_is, entries-contents dentry_cmp c.self.inside.entries c.len.ensures.valid, entries-contents dentry_cmp c.other.inside.entries c.len-2.ensures.valid)
    c.eq.ensures.value

-- two trees are the same where their maps are
pub returns-clause-same : goal.returns-clause-same
returns-clause-same c = rw (← c.self.view_is, ← c.other.view_is) (c.eq.ensures.exact inode_decides)
