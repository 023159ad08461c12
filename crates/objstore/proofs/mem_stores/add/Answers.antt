use Rattle.objstore.proofs.WriteLemmas.{added}
use Rattle.objstore.proofs.mem_stores.add.Goals as goal
use Rattle.objstore.proofs.Common.{◌∙◌}

pub returns-in-Ok-clause-done : goal.returns-in-Ok-clause-done
returns-in-Ok-clause-done c =
    c.insert.ensures.inserted ∙ added _ _ _ c.args.name.now c.args.op.now c.in-Ok.object c.in_ok-reserve.ensures.same c.in_ok-name.ensures c.requires c.in-Ok.ensures
