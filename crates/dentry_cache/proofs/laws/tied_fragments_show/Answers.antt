use Rattle.dentry_cache.proofs.TieLaws.{tied_show}
use Rattle.dentry_cache.proofs.laws.tied_fragments_show.Goals as goal

pub returns : goal.returns
returns c = tied_show
