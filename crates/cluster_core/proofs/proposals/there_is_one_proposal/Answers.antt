use Rattle.cluster_core.proofs.Common.{kinds}
use Rattle.cluster_core.proofs.ProposalLaws.{one_first}
use Rattle.cluster_core.proofs.proposals.there_is_one_proposal.Goals as goal

pub returns : goal.returns
returns c = λ s a b g h. one_first s kinds a b g h
