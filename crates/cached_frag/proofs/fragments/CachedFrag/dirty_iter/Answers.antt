use Rattle.cached_frag.proofs.Common.{AreDirtyNames, Cached, ap, subst, sym, ◌∙◌}
use Rattle.cached_frag.specs.Stores.{cached_by}
use Rattle.cached_frag.proofs.BareLaws.{are_dirty, dirty_pairs}
use Rattle.cached_frag.proofs.fragments.CachedFrag.dirty_iter.Goals as goal

pub returns-in-Fresh-clause-names : goal.returns-in-Fresh-clause-names
returns-in-Fresh-clause-names c = c.of_pairs.ensures ∙ dirty_pairs _ _ _ (sym (ap cached_by c.in-Fresh.is) ∙ c.self.view_is)

pub returns-in-Stored-clause-names : goal.returns-in-Stored-clause-names
returns-in-Stored-clause-names c = c.of_pairs-in-Stored.ensures ∙ dirty_pairs _ _ _ (sym (ap cached_by c.in-Stored.is) ∙ c.self.view_is)

pub returns-in-Fresh-clause-valid : goal.returns-in-Fresh-clause-valid
returns-in-Fresh-clause-valid c = are_dirty _ _ _ (sym (ap cached_by c.in-Fresh.is) ∙ c.self.view_is)

pub returns-in-Stored-clause-valid : goal.returns-in-Stored-clause-valid
returns-in-Stored-clause-valid c = are_dirty _ _ _ (sym (ap cached_by c.in-Stored.is) ∙ c.self.view_is)

pub returns-in-Named-clause-valid : goal.returns-in-Named-clause-valid
returns-in-Named-clause-valid c =
    subst (λ (f : Cached). AreDirtyNames f.dirty) (c.deref.ensures ∙ sym (ap cached_by c.in-Named.is) ∙ c.self.view_is) c.dirty_iter.ensures.valid
