use Rattle.cached_frag.proofs.Common.{ap, sym, ◌∙◌}
use Rattle.cached_frag.specs.Stores.{cached_by}
use Rattle.cached_frag.proofs.BareLaws.{taken}
use Rattle.cached_frag.proofs.fragments.CachedFrag.snapshot.Goals as goal

pub returns-in-Stored : goal.returns-in-Stored
returns-in-Stored c = taken _ _ _ (sym (ap cached_by c.in-Stored.is) ∙ c.self.view_is) _ c.new-in-Stored.ensures _ c.stored.ensures
