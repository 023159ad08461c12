use Rattle.cached_frag.proofs.Common.{Cached, Joins, ap, contents, key_cmp, subst, sym, ◌∙◌}
use Rattle.cached_frag.specs.Stores.{cached_by}
use Rattle.cached_frag.proofs.BareLaws.{joins_none}
use Rattle.cached_frag.proofs.fragments.CachedFrag.join.Goals as goal

pub returns-in-Fresh : goal.returns-in-Fresh
returns-in-Fresh c = subst (λ (g : Cached). Joins c.args.self.now g (contents key_cmp c.args.names) c.args.version) (sym c.self.view_is) (joins_none _ _ _ (sym (ap cached_by c.in-Fresh.is) ∙ c.self.view_is) _ c.args.version c.requires.room)

pub returns-in-Stored : goal.returns-in-Stored
returns-in-Stored c = subst (λ (g : Cached). Joins c.args.self.now g (contents key_cmp c.args.names) c.args.version) (sym c.self.view_is) (joins_none _ _ _ (sym (ap cached_by c.in-Stored.is) ∙ c.self.view_is) _ c.args.version c.requires.room)
