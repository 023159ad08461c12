use Rattle.dentry_cache.proofs.CandidateSteps.{next_small}
use Rattle.dentry_cache.proofs.candidates.Candidates.next_small.Goals as goal

pub returns : goal.returns
returns c = λ sizes sets. next_small sizes c.args.self.now.large.leaves.items c.args.self.now.small.leaves.items sets c.args.after.now c.next.result c.next.ensures
