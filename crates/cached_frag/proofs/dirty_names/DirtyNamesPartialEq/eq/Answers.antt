-- The pairs of the maps are the entries that the contract compares.
use Rattle.cached_frag.proofs.Common.{entries-contents, key_cmp, mark_decides}
use Rattle.cached_frag.proofs.dirty_names.DirtyNamesPartialEq.eq.Goals as goal

pub returns-clause-value : goal.returns-clause-value
returns-clause-value c =
    rw (← c.self.view_is, ← c.other.view_is, entries-contents key_cmp c.self.inside.names c.len.ensures.valid, entries-contents key_cmp c.other.inside.names c.len-2.ensures.valid)
    c.eq.ensures.value

-- two are the same where their maps are
pub returns-clause-same : goal.returns-clause-same
returns-clause-same c = rw (← c.self.view_is, ← c.other.view_is) (c.eq.ensures.exact mark_decides)
