use Rattle.ranked_tree.proofs.Common.{IsLive, Job, Rules, held_in, inl, refl, rules, state_of, stays, subst}
use Rattle.mdcache.specs.Commits.{leaf_of_job}
use Rattle.ranked_tree.proofs.HeldLaws.{may_hold, used_at}
use Rattle.ranked_tree.proofs.StandLaws.{divided_still, jobs_ended}
use Rattle.ranked_tree.proofs.Stays.{ended, none_stands}
use Rattle.ranked_tree.proofs.commits.end.Goals as goal

pub returns-in_default-clause-ended : goal.returns-in_default-clause-ended
returns-in_default-clause-ended g c =
    let gone : IsLive c.args.tree.now.homes c.args.tree.now.covers (leaf_of_job c.args.encoded.now.job) → ⊥ = search rules in
    (inl (refl, none_stands (state_of c.args.tree.now) (leaf_of_job c.args.encoded.now.job) c.args.encoded.now.job c.requires.divided.owned.sound.sound gone), refl)

pub end-requires-clause-holds : goal.end-requires-clause-holds
end-requires-clause-holds g c =
    let rules_here : Rules (state_of c.args.tree.now) (held_in c.args.regions.now) (leaf_of_job c.args.encoded.now.job) c.in-Some.rank
    = subst (λ (job : Job). Rules (state_of c.args.tree.now) (held_in c.args.regions.now) (leaf_of_job job) c.in-Some.rank) c.job-job.ensures.job c.in-Some.ensures.1 in
    may_hold (state_of c.args.tree.now) c.args.tree.now.caches (held_in c.args.regions.now) c.requires.divided.owned.held (leaf_of_job c.args.encoded.now.job) c.in-Some.rank rules_here

pub returns-in_default-clause-came : goal.returns-in_default-clause-came
returns-in_default-clause-came g c = stays

pub returns : goal.returns
returns g c =
    let its = c.end.ensures in
    let job = c.args.encoded.now.job in
    let stay = ended (state_of c.args.tree.now) (state_of c.end.new.self) c.args.tree.now.faults c.end.new.self.faults job c.end.result its.ended in
    let rules_here = subst (λ (job : Job). Rules (state_of c.args.tree.now) (held_in c.args.regions.now) (leaf_of_job job) c.in-Some.rank) c.job-job.ensures.job c.in-Some.ensures.1 in
    let used = used_at c.args.tree.now c.end.new.self (held_in c.args.regions.now) (leaf_of_job job) c.in-Some.rank c.requires.divided.owned rules_here its.came its.sound stay.0 stay.1 in
    let divided = divided_still c.args.tree.now c.end.new.self c.args.regions.now c.requires.divided used.owned used.count
    (jobs_ended (state_of c.args.tree.now) (state_of c.end.new.self) c.args.tree.now.faults c.end.new.self.faults job c.end.result its.ended) stay.0 stay.1 in
    search (rules, its, used, divided)
