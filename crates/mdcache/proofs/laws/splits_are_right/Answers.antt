use Rattle.mdcache.proofs.SplitLaws.{splits_right}
use Rattle.mdcache.proofs.laws.splits_are_right.Goals as goal

pub returns : goal.returns
returns c = splits_right
