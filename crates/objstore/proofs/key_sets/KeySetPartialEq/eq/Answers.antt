-- The pairs of the maps are those that the contract compares.
use Rattle.objstore.proofs.Common.{entries-contents, key_cmp, rules}
use Rattle.objstore.proofs.key_sets.KeySetPartialEq.eq.Goals as goal

pub returns-clause-value : goal.returns-clause-value
returns-clause-value c =
    rw (← c.self.view_is, ← c.other.view_is, entries-contents key_cmp c.self.inside.keys c.len.ensures.valid, entries-contents key_cmp c.other.inside.keys c.len-2.ensures.valid)
    c.eq.ensures.value

-- two maps are one where their pairs are
pub returns-clause-same : goal.returns-clause-same
returns-clause-same c = rw (← c.self.view_is, ← c.other.view_is) (c.eq.ensures.exact (λ a b. search rules))
