use Rattle.asking.proofs.DrainLaws.{strays_are_waiting}
use Rattle.asking.proofs.laws.strays_are_waiting.Goals as goal

pub returns : goal.returns
returns c = strays_are_waiting
