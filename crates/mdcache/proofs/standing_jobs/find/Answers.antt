use Rattle.mdcache.proofs.Common.{contents, leaf_cmp}
use Rattle.mdcache.proofs.Walks.{at_first, found_here, none_left_of, steps_on}
use Rattle.mdcache.proofs.standing_jobs.find.Goals as goal

pub loop-leaf-init : goal.loop-leaf-init
loop-leaf-init c = at_first (contents leaf_cmp c.args.jobs.now) c.args.number c.iter-left.result c.iter-left.ensures

pub returns-then-job-number : goal.returns-then-job-number
returns-then-job-number c = found_here (contents leaf_cmp c.args.jobs.now) c.args.number _ _ _ c.loop-leaf.invariant c.in-Some.ensures.steps c.if-job-number.true

pub loop-leaf-preserved : goal.loop-leaf-preserved
loop-leaf-preserved c = steps_on c.args.number _ _ _ _ c.loop-leaf.invariant c.in-Some.ensures.steps c.if-job-number.false

pub returns : goal.returns
returns c = none_left_of (contents leaf_cmp c.args.jobs.now) c.args.number _ c.loop-leaf.invariant c.in_default.ensures.steps.0
