use Rattle.mdcache.proofs.Common.{Some, on_ok_weaker, true, written, ◌∙◌}
use Rattle.mdcache.proofs.ObjectLaws.{tree_written}
use Rattle.mdcache.proofs.tree_objects.write_tree.Goals as goal

pub returns-clause-written : goal.returns-clause-written
returns-clause-written g c =
    on_ok_weaker c.apply.result (λ done. done ∙ (λ i. written (g.S.Store.objects c.args.store.now) c.args.name.now (record { clear = true; header = Some (c.in_ok-from_vec.ensures.made i); set = (c.new-op.ensures i).set; remove = (c.new-op.ensures i).remove }))
    ∙ tree_written (g.S.Store.objects c.args.store.now) c.args.name.now c.args.header.items) c.apply.ensures.done
