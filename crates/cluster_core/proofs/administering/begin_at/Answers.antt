use Rattle.cluster_core.proofs.Common.{Err, arith, begun_free, stays}
use Rattle.mdcache.specs.Core.{state_of as tree_state}
use Rattle.cluster_core.proofs.administering.begin_at.Goals as goal

pub returns-in-Err-clause-counted : goal.returns-in-Err-clause-counted
returns-in-Err-clause-counted g c =
    let old = tree_state c.args.tree.now.tree in
    let new = tree_state c.begin.new.self.tree in
    let none = begun_free old new (c.args.ino, c.args.frag) (Err c.in-Err.refusal) c.in-Err.ensures.begun in
    omega (arith, c.begin.ensures.faults, none)

pub returns-then-not-has_authority-clause-came : goal.returns-then-not-has_authority-clause-came
returns-then-not-has_authority-clause-came g c = stays

pub returns-in_default-clause-came : goal.returns-in_default-clause-came
returns-in_default-clause-came g c = stays

pub returns-then-is_frozen-clause-came : goal.returns-then-is_frozen-clause-came
returns-then-is_frozen-clause-came g c = stays
