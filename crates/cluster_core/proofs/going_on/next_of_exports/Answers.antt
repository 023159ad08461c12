use Rattle.cluster_core.proofs.Common.{IsNextOf, None, Some, Standing, arith, rules, sight_of, subst}
use Rattle.cluster_core.proofs.KindLaws.{behind_next, stepped, stepped_all, stepped_over}
use Rattle.cluster_core.proofs.LeafPlaces.{fewer}
use Rattle.cluster_core.proofs.going_on.next_of_exports.Goals as goal

pub loop-found-init : goal.loop-found-init
loop-found-init g c = λ ranks. record { behind = λ leaf passes. tt }

pub returns-then-is_some : goal.returns-then-is_some
returns-then-is_some g c = λ ranks.
    stepped (sight_of c.args.tree.now c.args.grants.now ranks c.args.rank) c.loop-found.after c.in-Some.found.0 c.in-Some.found.1 c.next_step-next.result (c.loop-found.invariant ranks)
    (subst (λ (st : Standing). IsNextOf st c.args.rank c.loop-found.after (Some c.in-Some.found)) c.exports.ensures c.in-Some.ensures) (c.next_step-next.ensures ranks) (search rules)

pub loop-found-smaller : goal.loop-found-smaller
loop-found-smaller g c =
    fewer c.loop-found.after c.in-Some.found.0
    (behind_next (sight_of c.args.tree.now c.args.grants.now 0 c.args.rank) c.loop-found.after c.in-Some.found.0 c.in-Some.found.1 (subst (λ (st : Standing). IsNextOf st c.args.rank c.loop-found.after (Some c.in-Some.found)) c.exports.ensures c.in-Some.ensures))
    (omega arith) (omega arith) (omega arith)

pub loop-found-preserved : goal.loop-found-preserved
loop-found-preserved g c = λ ranks.
    stepped_over (sight_of c.args.tree.now c.args.grants.now ranks c.args.rank) c.loop-found.after c.in-Some.found.0 c.in-Some.found.1 c.next_step-next.result (c.loop-found.invariant ranks)
    (subst (λ (st : Standing). IsNextOf st c.args.rank c.loop-found.after (Some c.in-Some.found)) c.exports.ensures c.in-Some.ensures) (c.next_step-next.ensures ranks) (search rules)

pub returns : goal.returns
returns g c = λ ranks.
    stepped_all (sight_of c.args.tree.now c.args.grants.now ranks c.args.rank) c.loop-found.after (c.loop-found.invariant ranks)
    (subst (λ (st : Standing). IsNextOf st c.args.rank c.loop-found.after None) c.exports.ensures c.in_default.ensures)
