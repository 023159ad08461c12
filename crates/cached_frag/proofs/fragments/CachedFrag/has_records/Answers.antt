use Rattle.cached_frag.proofs.Common.{ap, sym, ◌∙◌}
use Rattle.cached_frag.specs.Stores.{cached_by}
use Rattle.cached_frag.proofs.BareLaws.{none_recorded}
use Rattle.cached_frag.proofs.fragments.CachedFrag.has_records.Goals as goal

pub returns-in-Fresh : goal.returns-in-Fresh
returns-in-Fresh c = λ name. none_recorded _ _ _ (sym (ap cached_by c.in-Fresh.is) ∙ c.self.view_is) name

pub returns-in-Stored : goal.returns-in-Stored
returns-in-Stored c = λ name. none_recorded _ _ _ (sym (ap cached_by c.in-Stored.is) ∙ c.self.view_is) name
