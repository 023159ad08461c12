use Rattle.cached_frag.proofs.Common.{ap, option_copied, sym, ◌∙◌}
use Rattle.cached_frag.specs.Stores.{cached_by}
use Rattle.cached_frag.proofs.BareLaws.{no_rows}
use Rattle.cached_frag.proofs.fragments.CachedFrag.rows_after.Goals as goal

pub returns-in-Fresh : goal.returns-in-Fresh
returns-in-Fresh c = c.none.ensures ∙ no_rows _ _ _ (sym (ap cached_by c.in-Fresh.is) ∙ c.self.view_is) (option_copied c.args.after)

pub returns-in-Stored : goal.returns-in-Stored
returns-in-Stored c = c.none-in-Stored.ensures ∙ no_rows _ _ _ (sym (ap cached_by c.in-Stored.is) ∙ c.self.view_is) (option_copied c.args.after)
