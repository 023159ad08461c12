use Rattle.cached_frag.proofs.Common.{AreDirtyNames, Cached, subst}
use Rattle.cached_frag.proofs.named.fragments.NamedFrag.dirty_iter.Goals as goal

pub returns-clause-valid : goal.returns-clause-valid
returns-clause-valid c = subst (λ (f : Cached). AreDirtyNames f.dirty) c.self.view_is c.self.invariant.dirty
