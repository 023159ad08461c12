use Rattle.dirfrag_codec.proofs.FragmentLaws.{has_one_fragment, has_one_tree_object, shows_at_each, spells_what_it_shows}
use Rattle.dirfrag_codec.proofs.laws.fragments_are_spelled_once.Goals as goal

pub returns-clause-fragment : goal.returns-clause-fragment
returns-clause-fragment c = has_one_fragment

pub returns-clause-tree : goal.returns-clause-tree
returns-clause-tree c = has_one_tree_object

pub returns-clause-shown : goal.returns-clause-shown
returns-clause-shown c = spells_what_it_shows

pub returns-clause-each : goal.returns-clause-each
returns-clause-each c = shows_at_each
