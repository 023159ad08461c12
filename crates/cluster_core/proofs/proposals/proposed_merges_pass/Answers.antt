use Rattle.cluster_core.proofs.Common.{leaves_of}
use Rattle.cluster_core.proofs.MergeLaws.{can_merge}
use Rattle.cluster_core.proofs.proposals.proposed_merges_pass.Goals as goal

pub returns : goal.returns
returns c = λ s whole event tree small. (can_merge (leaves_of s.covers whole.0.0) tree whole.1 small.few.fragment (λ i lt. (small.idle i lt).own.live.stands), small.idle)
