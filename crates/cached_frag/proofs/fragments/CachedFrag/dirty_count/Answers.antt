use Rattle.cached_frag.proofs.Common.{ap, sym, ◌∙◌}
use Rattle.cached_frag.specs.Stores.{cached_by}
use Rattle.cached_frag.proofs.BareLaws.{dirty_count}
use Rattle.cached_frag.proofs.fragments.CachedFrag.dirty_count.Goals as goal

pub returns-in-Fresh : goal.returns-in-Fresh
returns-in-Fresh c = dirty_count _ _ _ (sym (ap cached_by c.in-Fresh.is) ∙ c.self.view_is)

pub returns-in-Stored : goal.returns-in-Stored
returns-in-Stored c = dirty_count _ _ _ (sym (ap cached_by c.in-Stored.is) ∙ c.self.view_is)
