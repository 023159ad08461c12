use Rattle.mdcache.proofs.GivenLaws.{given_right}
use Rattle.mdcache.proofs.laws.given_over_is_right.Goals as goal

pub returns : goal.returns
returns c = given_right
