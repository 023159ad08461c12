use Rattle.ranked_tree.proofs.Common.{HasFragment, NoneEnds, came_ranks, held_in, state_of}
use Rattle.ranked_tree.proofs.HeldLaws.{owned_came, there_held}
use Rattle.ranked_tree.proofs.StandLaws.{divided_still, no_jobs}
use Rattle.ranked_tree.proofs.ranked_tree.RankedTree.flush.Goals as goal

pub invariant_of-self : goal.invariant_of-self
invariant_of-self g c =
    let done = c.flush-done in
    let kept = done.ensures.tree in
    divided_still c.self.inside.tree done.new.self c.self.inside.regions c.self.invariant
    (owned_came (HasFragment c.self.inside.tree.caches) NoneEnds c.self.inside.tree done.new.self kept.caches done.ensures.sound (held_in c.self.inside.regions) kept.homes kept.covers
    (λ r q has live. there_held (state_of c.self.inside.tree) c.self.inside.tree.caches (held_in c.self.inside.regions) c.self.invariant.owned.held.cached r q has) c.self.invariant.owned)
    (came_ranks (HasFragment c.self.inside.tree.caches) NoneEnds c.self.inside.tree.caches done.new.self.caches kept.caches) (no_jobs c.self.inside.tree done.new.self done.ensures.jobs) kept.homes kept.covers

pub returns-clause-owned : goal.returns-clause-owned
returns-clause-owned g c = (invariant_of-self g c).owned

pub returns-clause-stand : goal.returns-clause-stand
returns-clause-stand g c = (invariant_of-self g c).stand
