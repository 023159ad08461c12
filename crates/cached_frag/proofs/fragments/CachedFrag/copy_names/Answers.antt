use Rattle.cached_frag.proofs.Common.{ap, sym, ◌∙◌}
use Rattle.cached_frag.specs.Stores.{cached_by}
use Rattle.cached_frag.proofs.BareLaws.{given_away}
use Rattle.cached_frag.proofs.KeptLaws.{no_entries}
use Rattle.cached_frag.proofs.fragments.CachedFrag.copy_names.Goals as goal

pub returns-in-Fresh-clause-names : goal.returns-in-Fresh-clause-names
returns-in-Fresh-clause-names c = given_away _ _ _ (sym (ap cached_by c.in-Fresh.is) ∙ c.self.view_is) _ c.new.ensures.empty

pub returns-in-Stored-clause-names : goal.returns-in-Stored-clause-names
returns-in-Stored-clause-names c = given_away _ _ _ (sym (ap cached_by c.in-Stored.is) ∙ c.self.view_is) _ c.new-in-Stored.ensures.empty

pub returns-in-Fresh-clause-entries : goal.returns-in-Fresh-clause-entries
returns-in-Fresh-clause-entries c = no_entries _ c.new.ensures.empty

pub returns-in-Stored-clause-entries : goal.returns-in-Stored-clause-entries
returns-in-Stored-clause-entries c = no_entries _ c.new-in-Stored.ensures.empty
