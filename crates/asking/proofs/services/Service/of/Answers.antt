use Rattle.asking.proofs.AmongLaws.{none_in_all}
use Rattle.asking.proofs.services.Service.of.Goals as goal

pub invariant_of-result : goal.invariant_of-result
invariant_of-result g c = record { idle = none_in_all c.args.book.core.state.inboxes c.in-None.ensures }
