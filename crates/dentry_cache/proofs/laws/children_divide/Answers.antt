use Rattle.dentry_cache.proofs.NameParts.{children_have_their_own, names_are_divided}
use Rattle.dentry_cache.proofs.laws.children_divide.Goals as goal

pub returns-clause-divided : goal.returns-clause-divided
returns-clause-divided c = names_are_divided

pub returns-clause-own : goal.returns-clause-own
returns-clause-own c = children_have_their_own
