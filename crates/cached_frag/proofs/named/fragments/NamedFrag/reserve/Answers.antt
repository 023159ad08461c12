use Rattle.cached_frag.proofs.Common.{arith}
use Rattle.cached_frag.proofs.KeptLaws.{kept_reserved}
use Rattle.cached_frag.proofs.named.fragments.NamedFrag.reserve.Goals as goal

pub invariant_of-self-2 : goal.invariant_of-self-2
invariant_of-self-2 c = kept_reserved _ _ _ _ _ _ c.self.invariant c.reserve.ensures.same c.room_of-self-inside.ensures.few (omega (arith, c.room_of-self-inside.ensures.within, c.room.ensures))
