use Rattle.std.proofs.Common.{◌≡◌, ◌∙◌, ap, sym, subst}
use Rattle.std.specs.FinMap as map
use Rattle.objstore.specs.Omap.{PairMap}
use Rattle.object_tables.specs.Reading.{IsReadUpTo, with_batch}
use Rattle.object_tables.proofs.BatchLaws.{ready_bare}
use Rattle.object_tables.proofs.RowLaws.{some_there}
use Rattle.object_tables.proofs.batches.turn_to.Goals as goal

pub returns-clause-ready : goal.returns-clause-ready
returns-clause-ready c key =
    let objects = c.finish.new.objects in
    let object = c.in-Some.object.now in
    let there : map.get objects c.in-Ok.name.now ≡ _ = some_there c.get.result c.in-Some.object _ c.get.ensures c.in-Some.is in
    let bare : object.pairs ≡ map.empty = map.empty_of_len object.pairs (ap (λ (p : PairMap). map.len p) (sym c.pairs.ensures) ∙ (sym c.len.ensures ∙ c.if-len-ne0.false)) in
    subst (λ n. IsReadUpTo objects n c.finish.new.batch.pairs key (with_batch c.args.objects.now c.args.batch.now)) (sym c.in_ok-batch.ensures)
    (ready_bare objects (with_batch c.args.objects.now c.args.batch.now) c.in-Ok.name.now c.finish.new.batch.pairs object key there bare c.in_ok-finish.ensures.none c.in_ok-finish.ensures.set)
