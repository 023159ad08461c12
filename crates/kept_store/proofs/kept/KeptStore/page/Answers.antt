use Rattle.kept_store.proofs.kept.KeptStore.page.Goals as goal

pub invariant_of-self : goal.invariant_of-self
invariant_of-self g c = rw c.page.ensures.same c.self.invariant
