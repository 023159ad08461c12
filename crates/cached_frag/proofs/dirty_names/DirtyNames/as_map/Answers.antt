use Rattle.cached_frag.proofs.Common.{AreDirtyNames, subst}
use Rattle.cached_frag.proofs.dirty_names.DirtyNames.as_map.Goals as goal

pub returns-clause-valid : goal.returns-clause-valid
returns-clause-valid c = subst AreDirtyNames c.self.view_is c.self.invariant
