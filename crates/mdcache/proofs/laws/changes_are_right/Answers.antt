use Rattle.mdcache.proofs.ChangeLaws.{changes_are_right as law}
use Rattle.mdcache.proofs.laws.changes_are_right.Goals as goal

pub returns : goal.returns
returns c = law
