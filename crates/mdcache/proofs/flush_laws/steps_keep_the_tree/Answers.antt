use Rattle.mdcache.proofs.KeptTree.{steps_keep_tree}
use Rattle.mdcache.proofs.flush_laws.steps_keep_the_tree.Goals as goal

pub returns : goal.returns
returns c = steps_keep_tree
