use Rattle.objstore.proofs.WriteLemmas.{done_at, same_at}
use Rattle.objstore.proofs.mem_stores.write.Goals as goal

pub returns-clause-done : goal.returns-clause-done
returns-clause-done c = done_at c.apply.result _ c.args.name.now c.args.op.now c.in-Some.object.now c.apply.new.self c.in-Some.ensures.value c.apply.ensures.ok

pub returns-clause-same : goal.returns-clause-same
returns-clause-same c = same_at c.apply.result _ c.args.name.now c.in-Some.object.now c.apply.new.self c.in-Some.ensures.value c.apply.ensures.err
