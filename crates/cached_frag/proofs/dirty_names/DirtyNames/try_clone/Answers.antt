use Rattle.cached_frag.proofs.Common.{AreDirtyNames, subst, sym, ◌∙◌}
use Rattle.cached_frag.proofs.dirty_names.DirtyNames.try_clone.Goals as goal

pub invariant_of-result : goal.invariant_of-result
invariant_of-result c = subst AreDirtyNames (sym c.in_ok-copy_of.ensures) c.self.invariant

pub returns : goal.returns
returns c = c.in_ok-copy_of.ensures ∙ c.self.view_is
