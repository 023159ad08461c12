use Rattle.mdcache.proofs.Common.{Core, KeepsNone, rules, subst, sym}
use Rattle.mdcache.proofs.GoneLaws.{either_first}
use Rattle.mdcache.proofs.mdcache.MdCache.remove_dir.Goals as goal

pub end_tree-requires-clause-none : goal.end_tree-requires-clause-none
end_tree-requires-clause-none g c = subst (λ (k : Core). KeepsNone k.caches) (sym c.self.view_is) c.requires.none

pub end_leaf-requires-clause-none : goal.end_leaf-requires-clause-none
end_leaf-requires-clause-none g c = subst (λ (k : Core). KeepsNone k.caches) (sym c.self.view_is) c.requires.none

-- the leaf's name went on the list before the tree's
pub returns-in-None-clause-gone : goal.returns-in-None-clause-gone
returns-in-None-clause-gone g c = search (rules, either_first)
