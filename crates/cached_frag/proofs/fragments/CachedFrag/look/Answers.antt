use Rattle.cached_frag.proofs.Common.{ap, sym, ◌∙◌}
use Rattle.cached_frag.specs.Stores.{cached_by}
use Rattle.cached_frag.proofs.BareLaws.{none_found}
use Rattle.cached_frag.proofs.fragments.CachedFrag.look.Goals as goal

pub returns-in-Fresh-clause-found : goal.returns-in-Fresh-clause-found
returns-in-Fresh-clause-found c = none_found _ _ _ (sym (ap cached_by c.in-Fresh.is) ∙ c.self.view_is) c.args.name.now

pub returns-in-Stored-clause-found : goal.returns-in-Stored-clause-found
returns-in-Stored-clause-found c = none_found _ _ _ (sym (ap cached_by c.in-Stored.is) ∙ c.self.view_is) c.args.name.now
