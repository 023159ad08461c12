use Rattle.cluster_core.proofs.ProposalLaws.{split_passes}
use Rattle.cluster_core.proofs.proposals.proposed_splits_pass.Goals as goal

pub returns : goal.returns
returns c = λ s leaf event large. record { can = split_passes s leaf event large; own = large.idle.own; thawed = large.idle.thawed; free = large.idle.free }
