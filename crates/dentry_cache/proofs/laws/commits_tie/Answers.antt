use Rattle.dentry_cache.proofs.TieLaws.{committed_are_tied}
use Rattle.dentry_cache.proofs.laws.commits_tie.Goals as goal

pub returns : goal.returns
returns c = committed_are_tied
