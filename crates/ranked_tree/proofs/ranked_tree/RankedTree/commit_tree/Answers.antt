use Rattle.ranked_tree.proofs.Common.{state_of}
use Rattle.ranked_tree.proofs.StandLaws.{divided_same, same_jobs}
use Rattle.ranked_tree.proofs.Stays.{saved}
use Rattle.ranked_tree.proofs.ranked_tree.RankedTree.commit_tree.Goals as goal

pub invariant_of-self : goal.invariant_of-self
invariant_of-self g c =
    let its = c.commit_tree.ensures in
    let stay = saved (state_of c.self.inside.tree) (state_of c.commit_tree.new.self) c.self.inside.tree.faults c.commit_tree.new.self.faults c.args.dir c.commit_tree.result its.saved in
    divided_same c.self.inside.tree c.commit_tree.new.self c.self.inside.regions c.self.invariant its.caches its.sound (same_jobs (state_of c.self.inside.tree) (state_of c.commit_tree.new.self) stay.2) stay.0 stay.1
