-- What was flushed is found again; and where it isn't opened, it is still there.
use Rattle.cluster_core.proofs.Common.{Some, ap, refl, ◌∙◌}
use Rattle.cluster_core.proofs.RestartLaws.{opens_again}
use Rattle.cluster_core.proofs.restarting.restart.Goals as goal

pub returns-in-Ok-clause-opening : goal.returns-in-Ok-clause-opening
returns-in-Ok-clause-opening g c = λ opening past goes.
    c.in-Ok.ensures.opening ∙ ap Some (opens_again _ _ _ _ _ c.into_store.ensures.objects c.in_default.ensures.cold c.in-Ok.ensures.cold refl ∙ goes.behind.sound.replayed)

pub returns-in-Err-clause-left : goal.returns-in-Err-clause-left
returns-in-Err-clause-left g c = (c.in-Err.ensures.outcome, c.in-Err.ensures.goes_on)
