use Rattle.cached_frag.proofs.Common.{AreDirtyNames, subst, sym}
use Rattle.cached_frag.proofs.named.fragments.NamedFrag.snapshot.Goals as goal

pub from_map-names-requires : goal.from_map-names-requires
from_map-names-requires c = subst AreDirtyNames (sym c.in_ok-copy_of.ensures) c.self.invariant.dirty
