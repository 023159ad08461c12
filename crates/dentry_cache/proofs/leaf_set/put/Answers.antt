use Rattle.dentry_cache.proofs.Common.{Rise, ap, arith, is_leaf_in, subst, sym, ◌∙◌}
use Rattle.dentry_cache.proofs.LeafSetLaws.{in_gap, put_again, put_in, put_rises}
use Rattle.dentry_cache.proofs.leaf_set.put.Goals as goal

pub put_at-requires-clause-room : goal.put_at-requires-clause-room
put_at-requires-clause-room c =
    let fits = c.requires.room (in_gap c.args.leaf.now c.args.leaves.now.items c.in-Err.at (rw c.deref.ensures.value at c.in-Err.ensures.spot)) in
    omega (arith, fits, c.args.leaves.now.ok.0)

pub returns-in-Ok-clause-each : goal.returns-in-Ok-clause-each
returns-in-Ok-clause-each c = λ q. put_again q c.args.leaf.now c.args.leaves.now.items c.in-Ok.field-0 (rw c.deref.ensures.value at c.in-Ok.ensures.spot)

pub returns-in-Err-clause-rise : goal.returns-in-Err-clause-rise
returns-in-Err-clause-rise c =
    subst Rise (sym c.put_at.ensures.items) (put_rises c.args.leaf.now c.args.leaves.now.items c.in-Err.at c.requires.rise (rw c.deref.ensures.value at c.in-Err.ensures.spot))

pub returns-in-Err-clause-each : goal.returns-in-Err-clause-each
returns-in-Err-clause-each c =
    λ q. ap (is_leaf_in q) c.put_at.ensures.items ∙ put_in q c.args.leaf.now c.args.leaves.now.items c.in-Err.at (rw c.deref.ensures.value at c.in-Err.ensures.spot)
