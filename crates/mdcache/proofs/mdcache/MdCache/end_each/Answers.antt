-- Each turn ends the first commit that is left.
use Rattle.mdcache.proofs.Common.{AllByRecursion, IsReadyWrite, arith, refl, rules, state_of, subst}
use Rattle.mdcache.proofs.BatchLaws.{ends_next, rest_is}
use Rattle.mdcache.proofs.CommittedLaws.{given_up_whole, whole_then}
use Rattle.mdcache.proofs.KeptTree.{kept_itself, steps_keep_tree}
use Rattle.mdcache.proofs.mdcache.MdCache.end_each.Goals as goal

pub loop-one-init : goal.loop-one-init
loop-one-init g c = search (rules, given_up_whole (state_of c.args.self.now) (state_of c.args.self.now) c.args.self.now.jobs c.args.self.now.next_job refl, kept_itself c.args.self.now)

pub end_one-requires-clause-begun : goal.end_one-requires-clause-begun
end_one-requires-clause-begun g c = (subst (AllByRecursion (IsReadyWrite c.loop-one.self)) (rest_is c.args.ready.now c.loop-one.one-index c.one-item.result c.loop-one-test.true c.one-item.is) c.loop-one.invariant.rest).0.hand

pub returns-in-Err-clause-whole : goal.returns-in-Err-clause-whole
returns-in-Err-clause-whole g c = whole_then (state_of c.args.self.now) (state_of c.loop-one.self) (state_of c.end_one.new.self) c.loop-one.invariant.whole c.in-Err.ensures.whole

pub returns-in-Err-clause-tree : goal.returns-in-Err-clause-tree
returns-in-Err-clause-tree g c = steps_keep_tree c.args.self.now c.loop-one.self c.end_one.new.self c.loop-one.invariant.tree c.in-Err.ensures.tree

pub loop-one-preserved : goal.loop-one-preserved
loop-one-preserved g c =
    let counted = c.in_default.ensures.counted in
    ends_next c.args.self.now c.loop-one.self c.end_one.new.self c.args.ready.now c.loop-one.one-index c.one-item.result c.loop-one-test.true c.one-item.is c.loop-one.invariant
    c.in_default.ensures.ended c.in_default.ensures.whole c.in_default.ensures.tree (omega (arith, counted)) c.in_default.ensures.sound
