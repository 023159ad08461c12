use Rattle.cached_frag.proofs.Common.{Cached, ap, sym, ◌∙◌}
use Rattle.cached_frag.specs.Stores.{cached_by}
use Rattle.cached_frag.proofs.BareLaws.{none_settled}
use Rattle.cached_frag.proofs.fragments.CachedFrag.settle.Goals as goal

pub returns-in-Fresh-clause-dirty : goal.returns-in-Fresh-clause-dirty
returns-in-Fresh-clause-dirty c =
    ap (λ (f : Cached). f.dirty) (ap cached_by c.replace.ensures.after) ∙ none_settled _ _ _ (sym (ap cached_by c.in-Fresh.is) ∙ c.self.view_is) c.args.names.now

pub returns-in-Stored-clause-dirty : goal.returns-in-Stored-clause-dirty
returns-in-Stored-clause-dirty c = none_settled _ _ _ (sym (ap cached_by c.in-Stored.is) ∙ c.self.view_is) c.args.names.now
