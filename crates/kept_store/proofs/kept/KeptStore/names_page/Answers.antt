use Rattle.kept_store.proofs.kept.KeptStore.names_page.Goals as goal

pub invariant_of-self : goal.invariant_of-self
invariant_of-self g c = rw c.names_page.ensures.same c.self.invariant
