use Rattle.ranked_tree.proofs.Common.{rules}
use Rattle.ranked_tree.proofs.AuthorityLaws.{authority_is}
use Rattle.ranked_tree.proofs.authorities.is_authority.Goals as goal

pub returns : goal.returns
returns g c = rw (← c.dirs.ensures.homes, ← c.dirs.ensures.trees) (authority_is c.args.roots.now.roots c.dirs.result.now.homes c.dirs.result.now.trees (c.args.dir, c.args.frag) c.args.rank c.find_authority.result c.eq.result (search rules) (search rules) c.find_authority.ensures)
