use Rattle.mdcache.proofs.Common.{MayNotCommit, State, state_of, subst, ℕ}
use Rattle.mdcache.proofs.mdcache.MdCache.flush.Goals as goal

pub returns-in-Err-clause-refused : goal.returns-in-Err-clause-refused
returns-in-Err-clause-refused g c =
    subst (λ (s : State). MayNotCommit 256 s c.args.self.now.faults c.commit_all.new.self.faults c.in-Err.refusal) c.drop_jobs.ensures.state
    (subst (λ (n : ℕ). MayNotCommit 256 (state_of c.drop_jobs.new.self) n c.commit_all.new.self.faults c.in-Err.refusal) c.drop_jobs.ensures.faults c.in-Err.ensures.refused)
