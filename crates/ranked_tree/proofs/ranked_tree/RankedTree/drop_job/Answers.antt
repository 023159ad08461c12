use Rattle.ranked_tree.proofs.Common.{state_of}
use Rattle.ranked_tree.proofs.StandLaws.{divided_same, jobs_dropped}
use Rattle.ranked_tree.proofs.Stays.{dropped}
use Rattle.ranked_tree.proofs.ranked_tree.RankedTree.drop_job.Goals as goal

pub invariant_of-self : goal.invariant_of-self
invariant_of-self g c =
    let its = c.drop_job.ensures in
    let stay = dropped (state_of c.self.inside.tree) (state_of c.drop_job.new.self) c.args.number c.drop_job.result its.dropped in
    divided_same c.self.inside.tree c.drop_job.new.self c.self.inside.regions c.self.invariant its.caches its.sound (jobs_dropped (state_of c.self.inside.tree) (state_of c.drop_job.new.self) c.args.number c.drop_job.result its.dropped) stay.0 stay.1
