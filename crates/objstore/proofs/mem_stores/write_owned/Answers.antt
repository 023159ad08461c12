use Rattle.objstore.proofs.Common.{Err, Ok}
use Rattle.objstore.proofs.WriteLemmas.{done_at, same_at}
use Rattle.objstore.proofs.mem_stores.write_owned.Goals as goal

pub returns-in-Ok-clause-done : goal.returns-in-Ok-clause-done
returns-in-Ok-clause-done c = done_at {A = Unit {0}} {E = Unit {0}} (Ok tt) _ c.args.name.now c.args.op c.in-Some.object.now c.apply_owned.new.self c.in-Some.ensures.value c.in-Ok.ensures.ok

pub returns-in-Err-clause-same : goal.returns-in-Err-clause-same
returns-in-Err-clause-same c = same_at {A = Unit {0}} {E = Unit {0}} (Err tt) _ c.args.name.now c.in-Some.object.now c.apply_owned.new.self c.in-Some.ensures.value c.in-Err.ensures.err
