use Rattle.ranked_tree.proofs.Common.{Core, State, ap, held_in, state_of}
use Rattle.ranked_tree.proofs.StandLaws.{divided_still, same_jobs}
use Rattle.ranked_tree.proofs.EvictLaws.{evict_keeps, evict_owned}
use Rattle.ranked_tree.proofs.ranked_tree.RankedTree.evict.Goals as goal

pub invariant_of-self : goal.invariant_of-self
invariant_of-self g c =
    let its = c.evict.ensures in
    divided_still c.self.inside.tree c.evict.new.self c.self.inside.regions c.self.invariant
    (evict_owned c.self.inside.tree c.evict.new.self c.args.rank.0 its.state c.evict.result its.evicted its.left (held_in c.self.inside.regions) its.sound c.self.invariant.owned)
    (evict_keeps c.self.inside.tree c.evict.new.self c.args.rank.0 its.state c.evict.result its.evicted its.left its.refused (ap (λ (k : Core). k.faults) its.beside)).count
    (same_jobs (state_of c.self.inside.tree) (state_of c.evict.new.self) (ap (λ (s : State). s.jobs) its.state)) (ap (λ (s : State). s.homes) its.state) (ap (λ (s : State). s.covers) its.state)

pub returns-clause-kept : goal.returns-clause-kept
returns-clause-kept g c =
    let its = c.evict.ensures in rw (← c.self.view_is) (evict_keeps c.self.inside.tree c.evict.new.self c.args.rank.0 its.state c.evict.result its.evicted its.left its.refused (ap (λ (k : Core). k.faults) its.beside))
