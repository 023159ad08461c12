use Rattle.cached_frag.proofs.Common.{ap, sym, ◌∙◌}
use Rattle.cached_frag.specs.Stores.{cached_by}
use Rattle.cached_frag.proofs.BareLaws.{all_clean}
use Rattle.cached_frag.proofs.fragments.CachedFrag.is_clean.Goals as goal

pub returns-in-Stored : goal.returns-in-Stored
returns-in-Stored c = all_clean _ _ _ (sym (ap cached_by c.in-Stored.is) ∙ c.self.view_is)
