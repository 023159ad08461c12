use Rattle.cached_frag.proofs.CommitLaws.{commit_is_right}
use Rattle.cached_frag.proofs.laws.commit_is_right.Goals as goal

pub returns : goal.returns
returns c = commit_is_right
