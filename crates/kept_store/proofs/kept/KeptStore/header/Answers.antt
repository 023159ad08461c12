use Rattle.kept_store.proofs.kept.KeptStore.header.Goals as goal

pub invariant_of-self : goal.invariant_of-self
invariant_of-self g c = rw c.header.ensures.same c.self.invariant
