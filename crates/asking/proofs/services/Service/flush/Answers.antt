use Rattle.asking.proofs.ServiceLaws.{idle_flushed}
use Rattle.asking.proofs.services.Service.flush.Goals as goal

pub invariant_of-self : goal.invariant_of-self
invariant_of-self g c = record { idle = idle_flushed c.args.self.now.book c.flush.new.book c.flush.result c.flush.ensures.outcome c.args.self.now.idle }
