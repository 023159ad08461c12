use Rattle.asking.proofs.DrainLaws.{lowest_is_first}
use Rattle.asking.proofs.laws.lowest_is_first.Goals as goal

pub returns : goal.returns
returns c = lowest_is_first
