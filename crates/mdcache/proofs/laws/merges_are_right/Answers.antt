use Rattle.mdcache.proofs.SplitLaws.{merges_right}
use Rattle.mdcache.proofs.laws.merges_are_right.Goals as goal

pub returns : goal.returns
returns c = merges_right
