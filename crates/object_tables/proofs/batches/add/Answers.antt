use Rattle.std.proofs.Common.{◌≡◌, Some, subst, sym}
use Rattle.object_tables.specs.declared.batches.Batch.{Batch}
use Rattle.object_tables.specs.Entries.{entry}
use Rattle.object_tables.specs.Reading.{AddsPair, HasBatch, with_batch}
use Rattle.object_tables.specs.Spelled.{pair_key}
use Rattle.object_tables.proofs.BatchLaws.{taken_batch, taken_pair, with_pair}
use Rattle.object_tables.proofs.batches.add.Goals as goal

pub returns-clause-batch : goal.returns-clause-batch
returns-clause-batch c =
    let mid = c.make_ready.new.batch in
    subst (HasBatch c.make_ready.new.objects) (sym c.in_ok-take.ensures)
    (taken_batch c.make_ready.new.objects (with_batch c.args.objects.now c.args.batch.now) mid.name mid.pairs c.in_ok-key.key c.in_ok-value.value c.in_ok-make_ready.ensures.ready)

pub returns-clause-added : goal.returns-clause-added
returns-clause-added c =
    let objects = c.make_ready.new.objects in
    let mid = c.make_ready.new.batch in
    let before = with_batch c.args.objects.now c.args.batch.now in
    let name : mid.name ≡ c.args.name.now = c.in_ok-make_ready.ensures.name in
    let key : c.in_ok-key.key ≡ c.args.key.now = c.in_ok-key.ensures.copy in
    let value : c.in_ok-value.value ≡ c.args.value.now = c.in_ok-value.ensures.copy in
    subst (λ (b : Batch). AddsPair before (with_batch objects b) (entry (pair_key c.args.name.now c.args.key.now) c.args.value.now)) (sym c.in_ok-take.ensures)
    (subst (AddsPair before (with_batch objects (record mid { last = Some c.in_ok-key.key; pairs = with_pair mid.pairs c.in_ok-key.key c.in_ok-value.value })))
    (λ i. entry (pair_key (name i) (key i)) (value i))
    (taken_pair objects before mid.name mid.pairs c.in_ok-key.key c.in_ok-value.value c.in_ok-make_ready.ensures.ready))
