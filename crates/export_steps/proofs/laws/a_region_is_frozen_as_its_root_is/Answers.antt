use Rattle.export_steps.proofs.Handover.{frozen_with_root}
use Rattle.export_steps.proofs.Holders.{region_frozen}
use Rattle.export_steps.proofs.laws.a_region_is_frozen_as_its_root_is.Goals as goal

pub returns-clause-stands : goal.returns-clause-stands
returns-clause-stands c = λ standing roots homes covers root leaf inside. region_frozen standing roots homes covers leaf root inside.nearest

pub returns-clause-comes : goal.returns-clause-comes
returns-clause-comes c = λ old new was now root is homes covers leaf inside.
    frozen_with_root was.roots now.roots root is.step.export.exporter is.roots homes covers old leaf inside.nearest
