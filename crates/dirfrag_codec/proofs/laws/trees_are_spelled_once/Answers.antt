use Rattle.dirfrag_codec.proofs.TreeLaws.{no_tree_begins_another, one_tree}
use Rattle.dirfrag_codec.proofs.ValueLaws.{reads_tree}
use Rattle.dirfrag_codec.proofs.laws.trees_are_spelled_once.Goals as goal

pub returns-clause-meaning : goal.returns-clause-meaning
returns-clause-meaning c = one_tree

pub returns-clause-ended : goal.returns-clause-ended
returns-clause-ended c = no_tree_begins_another

pub returns-clause-value : goal.returns-clause-value
returns-clause-value c = reads_tree
