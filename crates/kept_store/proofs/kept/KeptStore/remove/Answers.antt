use Rattle.std.proofs.Common.{◌∙◌, sym, inl}
use Rattle.std.specs.FinMap as finmap
use Rattle.kept_store.proofs.KeptLaws.{mirrored_other}
use Rattle.kept_store.proofs.NotingLaws.{agree_either, agree_same, of_ok}
use Rattle.kept_store.proofs.kept.KeptStore.remove.Goals as goal

pub invariant_of-self : goal.invariant_of-self
invariant_of-self g c clean =
    mirrored_other (g.T.Store.view c.self.inside.tables) (g.T.Store.recovers c.self.inside.tables) c.self.inside.objects c.self.inside.objects
    c.self.inside.changes _ c.note_object.ensures.more (agree_same c.self.inside.objects _) (c.self.invariant clean)

pub invariant_of-self-2 : goal.invariant_of-self-2
invariant_of-self-2 g c clean =
    let a = c.self.inside.objects in
    mirrored_other (g.T.Store.view c.self.inside.tables) (g.T.Store.recovers c.self.inside.tables) a c.remove.new.self
    c.self.inside.changes c.note_object.new.changes c.note_object.ensures.more
    (agree_either a c.remove.new.self (finmap.remove a c.args.name.now) c.note_object.new.changes
    (of_ok c.note_object.result _ (sym c.is_err.ensures.value ∙ c.if-is_err.false) c.note_object.ensures.noted)
    (inl c.remove.ensures.removed))
    (c.self.invariant clean)
