use Rattle.ranked_tree.proofs.Common.{rules, state_of}
use Rattle.ranked_tree.proofs.EndedLaws.{ended_on, fewer_left}
use Rattle.ranked_tree.proofs.ending_jobs.end_region.Goals as goal

pub loop-leaf-smaller : goal.loop-leaf-smaller
loop-leaf-smaller g c = fewer_left c.args.roots.now.roots c.args.root.now (state_of c.args.tree.now) (state_of c.loop-leaf.tree) c.loop-leaf.last c.in-Some.leaf c.loop-leaf.invariant.ended c.in-Some.ensures

pub loop-leaf-preserved : goal.loop-leaf-preserved
loop-leaf-preserved g c =
    let ended = ended_on c.args.roots.now.roots c.args.root.now (state_of c.args.tree.now) (state_of c.loop-leaf.tree) c.loop-leaf.last c.in-Some.leaf c.loop-leaf.invariant.ended c.in-Some.ensures (state_of c.end_inside.new.tree) c.end_inside.ensures.ended in
    search (rules, c.end_inside.ensures, c.loop-leaf.invariant, ended)
