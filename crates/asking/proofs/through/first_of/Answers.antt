use Rattle.asking.proofs.Common.{arith, rules}
use Rattle.cluster_core.proofs.LeafPlaces.{fewer}
use Rattle.asking.proofs.ThroughLaws.{all_behind, behind_next, first_is, none_of_rank}
use Rattle.asking.proofs.through.first_of.Goals as goal

pub loop-found-init : goal.loop-found-init
loop-found-init c = λ root export stands of freezing. tt

pub returns-then-is_freezing : goal.returns-then-is_freezing
returns-then-is_freezing c = first_is c.args.exports.now c.args.rank c.loop-found.after c.in-Some.found.0 c.in-Some.found.1 c.in-Some.ensures (search rules)

pub loop-found-smaller : goal.loop-found-smaller
loop-found-smaller c = fewer c.loop-found.after c.in-Some.found.0 (behind_next c.args.exports.now c.args.rank c.loop-found.after c.in-Some.found c.in-Some.ensures) (omega arith) (omega arith) (omega arith)

pub loop-found-preserved : goal.loop-found-preserved
loop-found-preserved c = all_behind c.args.exports.now c.args.rank c.loop-found.after c.in-Some.found.0 c.in-Some.found.1 c.loop-found.invariant c.in-Some.ensures (search rules)

pub returns : goal.returns
returns c = none_of_rank c.args.exports.now c.args.rank c.loop-found.after c.loop-found.invariant c.in_default.ensures
