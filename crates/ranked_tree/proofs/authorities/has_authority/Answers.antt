use Rattle.ranked_tree.proofs.Common.{leaf_of, rules}
use Rattle.ranked_tree.proofs.AuthorityLaws.{authority_same}
use Rattle.ranked_tree.proofs.authorities.has_authority.Goals as goal

pub returns : goal.returns
returns g c = authority_same c.args.regions.now.roots.roots c.args.tree.now.homes c.args.tree.now.covers (leaf_of c.args.at.now) c.authority_at.result c.args.rank c.eq.result (search rules) (search rules) c.authority_at.ensures
