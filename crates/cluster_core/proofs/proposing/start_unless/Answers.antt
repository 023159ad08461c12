use Rattle.cluster_core.proofs.proposing.start_unless.Goals as goal

pub returns : goal.returns
returns g c = λ grants settled. c.first_start.ensures grants
