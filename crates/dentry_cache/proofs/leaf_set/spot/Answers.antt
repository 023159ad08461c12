use Rattle.dentry_cache.proofs.LeafSetLaws.{searched}
use Rattle.dentry_cache.proofs.leaf_set.spot.Goals as goal

pub returns-clause-spot : goal.returns-clause-spot
returns-clause-spot c = searched c.args.leaf.now c.args.leaves.now _ c.requires c.binary_search.ensures.bound c.binary_search.ensures.position
