-- A request that is neither taken in nor forwarded tells no fault.
use Rattle.cluster_core.proofs.Common.{Arrives, Err, Inboxes, Rank, Refusal, Request, ap, faults_in, inl, inr, ◌≡◌}

pub arrive_free : (old new : Inboxes) (rank : Rank) (request : Request) (reason : Refusal)
    → Arrives old new rank request (Err reason) → faults_in reason ≡ 0
arrive_free old new rank request reason (inl absent, same) = ap faults_in absent.0
arrive_free old new rank request reason (inr full, same) = ap faults_in full.0
