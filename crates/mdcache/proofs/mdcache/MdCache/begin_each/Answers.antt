-- Each turn begins a commit of the first leaf that is left.
use Rattle.mdcache.proofs.Common.{AllByRecursion, IsBegunAt, Jobs, Leaf, State, ap, get-empty, leaf_cmp, leaf_of, leaves_of_places, leaves_of_jobs, rules, state_of, subst, sym, ◌++◌, ◌∙◌}
use Rattle.std.specs.FinMap as map
use Rattle.mdcache.proofs.BatchLaws.{begin_lacks, begins_next, next_free}
use Rattle.mdcache.proofs.KeptTree.{kept_itself, steps_keep_tree}
use Rattle.mdcache.proofs.mdcache.MdCache.begin_each.Goals as goal

pub returns-in_err-begun-clause-tree : goal.returns-in_err-begun-clause-tree
returns-in_err-begun-clause-tree g c = kept_itself c.args.self.now

pub loop-at-init : goal.loop-at-init
loop-at-init g c =
    let none = c.in_ok-begun.ensures.items in
    let begun = subst (AllByRecursion (IsBegunAt c.args.self.now)) (sym none) tt in
    let listed = ap (λ bs. leaves_of_jobs bs ++ leaves_of_places c.args.leaves.now) none in
    search (rules, begun, listed, λ (q : Leaf). ap (λ (jobs : Jobs). map.get jobs q) c.requires.none ∙ get-empty leaf_cmp q, kept_itself c.args.self.now)

pub begin_one-requires-clause-free : goal.begin_one-requires-clause-free
begin_one-requires-clause-free g c = next_free c.args.self.now c.loop-at.self c.args.leaves.now c.loop-at.at-index c.at-item.result c.loop-at-test.true c.at-item.is c.loop-at.begun.items c.loop-at.invariant c.requires.apart

pub returns-in-Err-clause-tree : goal.returns-in-Err-clause-tree
returns-in-Err-clause-tree g c = steps_keep_tree c.args.self.now c.loop-at.self c.begin_one.new.self c.loop-at.invariant.tree c.in-Err.ensures.tree

pub returns-in-Err-clause-refused : goal.returns-in-Err-clause-refused
returns-in-Err-clause-refused g c =
    begin_lacks (state_of c.args.self.now) (state_of c.loop-at.self) (leaf_of c.at-item.result) _ c.loop-at.at-index c.in-Err.refusal (ap (λ (s : State). s.unsaved) c.loop-at.invariant.left) c.loop-at.invariant.number c.loop-at-test.true c.in-Err.ensures.refused

pub returns-then-is_err-clause-tree : goal.returns-then-is_err-clause-tree
returns-then-is_err-clause-tree g c = steps_keep_tree c.args.self.now c.loop-at.self c.begin_one.new.self c.loop-at.invariant.tree c.in-Ok.ensures.tree

pub loop-at-preserved : goal.loop-at-preserved
loop-at-preserved g c =
    begins_next c.args.self.now c.loop-at.self c.args.leaves.now c.loop-at.at-index c.at-item.result c.loop-at-test.true c.at-item.is c.loop-at.begun.items c.loop-at.invariant c.requires.apart
    c.begin_one.new.self c.in-Ok.job c.in-Ok.ensures.begun c.in-Ok.ensures.tree c.in-Ok.ensures.faults c.in-Ok.ensures.sound c.push.new.self.items (search rules)
