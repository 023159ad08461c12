use Rattle.cached_frag.proofs.Common.{ap, sym, ◌∙◌}
use Rattle.cached_frag.specs.Stores.{cached_by}
use Rattle.cached_frag.proofs.BareLaws.{none_counted}
use Rattle.cached_frag.proofs.fragments.CachedFrag.counts.Goals as goal

pub returns-in-Fresh : goal.returns-in-Fresh
returns-in-Fresh c = none_counted _ _ _ (sym (ap cached_by c.in-Fresh.is) ∙ c.self.view_is)

pub returns-in-Stored : goal.returns-in-Stored
returns-in-Stored c = none_counted _ _ _ (sym (ap cached_by c.in-Stored.is) ∙ c.self.view_is)
