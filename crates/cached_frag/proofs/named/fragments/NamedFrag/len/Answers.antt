use Rattle.cached_frag.proofs.KeptLaws.{kept_len}
use Rattle.cached_frag.proofs.named.fragments.NamedFrag.len.Goals as goal

pub returns : goal.returns
returns c = rw (← c.self.view_is) (kept_len _ _ _ c.self.invariant)
