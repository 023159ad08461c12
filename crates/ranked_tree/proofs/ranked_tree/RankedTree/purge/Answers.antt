use Rattle.ranked_tree.proofs.Common.{first_name, state_of}
use Rattle.ranked_tree.proofs.StandLaws.{divided_same, same_jobs}
use Rattle.ranked_tree.proofs.Stays.{purged}
use Rattle.ranked_tree.proofs.ranked_tree.RankedTree.purge.Goals as goal

pub invariant_of-self : goal.invariant_of-self
invariant_of-self g c =
    let its = c.purge.ensures in
    let stay = purged (state_of c.self.inside.tree) (state_of c.purge.new.self) c.self.inside.tree.faults c.purge.new.self.faults (first_name c.self.inside.tree.purge) c.purge.result its.purged in
    divided_same c.self.inside.tree c.purge.new.self c.self.inside.regions c.self.invariant its.caches its.sound (same_jobs (state_of c.self.inside.tree) (state_of c.purge.new.self) stay.2) stay.0 stay.1
