use Rattle.mdcache.proofs.KeptTree.{keeps_tree}
use Rattle.mdcache.proofs.mdcache.MdCache.save_trees.Goals as goal

pub returns-clause-tree : goal.returns-clause-tree
returns-clause-tree g c = keeps_tree c.args.self.now c.save_each.new.tree c.save_each.ensures.caches _ _ _ _ c.save_each.ensures.saved.left c.save_each.ensures.saved.tree
