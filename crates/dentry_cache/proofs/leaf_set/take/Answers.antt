use Rattle.dentry_cache.proofs.Common.{Rise, ap, is_leaf_in, subst, sym, ◌∙◌}
use Rattle.dentry_cache.proofs.LeafSetLaws.{take_none, take_out, take_rises}
use Rattle.dentry_cache.proofs.leaf_set.take.Goals as goal

pub returns-in-Ok-clause-rise : goal.returns-in-Ok-clause-rise
returns-in-Ok-clause-rise c = subst Rise (sym c.take_at.ensures.items) (take_rises c.args.leaves.now.items c.in-Ok.at c.requires)

pub returns-in-Ok-clause-each : goal.returns-in-Ok-clause-each
returns-in-Ok-clause-each c =
    λ q. ap (is_leaf_in q) c.take_at.ensures.items ∙ take_out q c.args.leaf.now c.args.leaves.now.items c.in-Ok.at c.requires (rw c.deref.ensures.value at c.in-Ok.ensures.spot)

pub returns-in-Err-clause-each : goal.returns-in-Err-clause-each
returns-in-Err-clause-each c = λ q. take_none q c.args.leaf.now c.args.leaves.now.items c.in-Err.field-0 (rw c.deref.ensures.value at c.in-Err.ensures.spot)
