use Rattle.asking.proofs.InboxLaws.{new_are_idle}
use Rattle.asking.proofs.laws.new_are_idle.Goals as goal

pub returns : goal.returns
returns c = new_are_idle
