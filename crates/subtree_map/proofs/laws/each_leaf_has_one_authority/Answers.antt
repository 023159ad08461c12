use Rattle.subtree_map.proofs.Nearest.{one_authority, some_authority}
use Rattle.subtree_map.proofs.laws.each_leaf_has_one_authority.Goals as goal

pub returns-clause-some : goal.returns-clause-some
returns-clause-some c = λ roots homes covers leaf table valid is. some_authority roots homes covers table valid leaf is

pub returns-clause-one : goal.returns-clause-one
returns-clause-one c = one_authority
