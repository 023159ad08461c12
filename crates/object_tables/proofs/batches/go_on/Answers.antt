use Rattle.std.proofs.Common.{ap}
use Rattle.std.proofs.lemmas.Result.{on_ok_weaker}
use Rattle.object_tables.specs.declared.batches.Batch.{Batch}
use Rattle.object_tables.proofs.BatchLaws.{ready_on, ready_set}
use Rattle.object_tables.proofs.batches.go_on.Goals as goal

pub returns-then-len-lt-MOST-clause-ready : goal.returns-then-len-lt-MOST-clause-ready
returns-then-len-lt-MOST-clause-ready c =
    let batch = c.args.batch.now in
    ready_on c.args.objects.now batch.name batch.pairs batch.last c.args.key.now c.requires (c.precedes.ensures c.if-not-precedes.false)

pub returns-clause-ready : goal.returns-clause-ready
returns-clause-ready c = on_ok_weaker c.set_pairs.result
    (λ set.
    let batch = c.args.batch.now in
    rw (ap (λ (b : Batch). b.name) c.set_pairs.ensures.none) (ready_set c.args.objects.now c.set_pairs.new.objects batch.name batch.pairs c.set_pairs.new.batch.pairs batch.last c.args.key.now
    c.requires (c.precedes.ensures c.if-not-precedes.false) set (ap (λ (b : Batch). b.pairs) c.set_pairs.ensures.none)))
    c.set_pairs.ensures.set
