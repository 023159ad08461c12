use Rattle.std.specs.FinMap as map
use Rattle.mdcache.proofs.Common.{state_of}
use Rattle.mdcache.proofs.CommittedLaws.{given_up_whole, whole_then}
use Rattle.mdcache.proofs.mdcache.MdCache.commit_batch.Goals as goal

pub returns-clause-whole : goal.returns-clause-whole
returns-clause-whole g c =
    whole_then (state_of c.args.self.now) (state_of c.commit_each-done.new.self) (state_of c.give_up_from.new.self) c.commit_each-done.ensures.whole
    (given_up_whole (state_of c.commit_each-done.new.self) (state_of c.give_up_from.new.self) map.empty c.next_job-number.result c.give_up_from.ensures.state)
