use Rattle.cached_frag.proofs.KeptLaws.{kept_places}
use Rattle.cached_frag.proofs.named.fragments.NamedFrag.reserve_settled.Goals as goal

pub invariant_of-self : goal.invariant_of-self
invariant_of-self c = kept_places _ _ _ _ _ c.self.invariant c.reserve.ensures.same
