use Rattle.cluster_core.proofs.ProposalLaws.{none_export, none_large, none_small}
use Rattle.cluster_core.proofs.proposals.no_candidate_no_proposal.Goals as goal

pub returns : goal.returns
returns c = record { exports = none_export; large = none_large; small = none_small }
