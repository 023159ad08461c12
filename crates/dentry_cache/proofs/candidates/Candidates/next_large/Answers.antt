use Rattle.dentry_cache.proofs.CandidateSteps.{next_large}
use Rattle.dentry_cache.proofs.candidates.Candidates.next_large.Goals as goal

pub returns : goal.returns
returns c = λ sizes sets. next_large sizes c.args.self.now.large.leaves.items c.args.self.now.small.leaves.items sets c.args.after.now c.next.result c.next.ensures
