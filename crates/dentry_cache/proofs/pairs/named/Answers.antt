use Rattle.dentry_cache.proofs.PairLaws.{name_is}
use Rattle.dentry_cache.proofs.pairs.named.Goals as goal

pub returns : goal.returns
returns c = name_is c.args.key.now _ c.name_of.ensures.named
