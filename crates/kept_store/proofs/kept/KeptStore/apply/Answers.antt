use Rattle.std.proofs.Common.{◌∙◌, sym}
use Rattle.objstore.specs.Objects.{written}
use Rattle.kept_store.proofs.KeptLaws.{mirrored_other}
use Rattle.kept_store.proofs.NotingLaws.{agree_either, agree_same, of_ok, one_way}
use Rattle.kept_store.proofs.kept.KeptStore.apply.Goals as goal

pub invariant_of-self : goal.invariant_of-self
invariant_of-self g c clean =
    mirrored_other (g.T.Store.view c.self.inside.tables) (g.T.Store.recovers c.self.inside.tables) c.self.inside.objects c.self.inside.objects
    c.self.inside.changes _ c.note_write.ensures.more (agree_same c.self.inside.objects _) (c.self.invariant clean)

pub invariant_of-self-2 : goal.invariant_of-self-2
invariant_of-self-2 g c clean =
    let a = c.self.inside.objects in
    mirrored_other (g.T.Store.view c.self.inside.tables) (g.T.Store.recovers c.self.inside.tables) a c.apply.new.self
    c.self.inside.changes c.note_write.new.changes c.note_write.ensures.more
    (agree_either a c.apply.new.self (written a c.args.name.now c.args.op.now) c.note_write.new.changes
    (of_ok c.note_write.result _ (sym c.is_err.ensures.value ∙ c.if-is_err.false) c.note_write.ensures.noted)
    (one_way c.apply.result _ _ c.apply.ensures.done c.apply.ensures.same))
    (c.self.invariant clean)
