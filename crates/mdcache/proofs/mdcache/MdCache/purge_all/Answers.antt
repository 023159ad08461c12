use Rattle.mdcache.proofs.KeptTree.{keeps_tree}
use Rattle.mdcache.proofs.mdcache.MdCache.purge_all.Goals as goal

pub returns-clause-tree : goal.returns-clause-tree
returns-clause-tree g c = keeps_tree c.args.self.now c.purge_each.new.tree c.purge_each.ensures.caches _ _ _ _ c.purge_each.ensures.purged.left c.purge_each.ensures.purged.tree
