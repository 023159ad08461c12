use Rattle.mdcache.proofs.Common.{Carried, ap, rules, stays}
use Rattle.mdcache.proofs.EndSteps.{end_done, end_refused, job_cached}
use Rattle.mdcache.proofs.mdcache.MdCache.end.Goals as goal

pub returns-then-not-stands-clause-came : goal.returns-then-not-stands-clause-came
returns-then-not-stands-clause-came g c = stays

pub end_commit-requires-clause-cached : goal.end_commit-requires-clause-cached
end_commit-requires-clause-cached g c = job_cached c.args.self.now _ c.self.view_is c.requires.sound c.args.rank.0 c.args.encoded.now.job c.job-job.result.now c.job-job.ensures.job (c.stands.ensures.0 c.if-not-stands.false) c.requires.holds.alone

pub returns-in-Err : goal.returns-in-Err
returns-in-Err g c =
    let its = end_refused c.args.self.now _ c.self.view_is c.requires.sound c.args.rank.0 c.args.encoded.now.job c.job-job.result.now c.job-job.ensures.job (c.stands.ensures.0 c.if-not-stands.false) c.requires.holds.alone c.end_commit.new.self (g.S.Store.objects c.end_commit.new.store) (g.S.Store.faults c.end_commit.new.store) c.in-Err.ensures.kept c.in-Err.ensures.same c.in-Err.refusal c.in-Err.ensures.refused in
    record { ended = its.ended; came = its.came; counted = search rules; sound = its.sound }

pub returns : goal.returns
returns g c =
    let its = end_done c.args.self.now _ c.self.view_is c.requires.sound c.args.rank.0 c.args.encoded.now.job c.job-job.result.now c.job-job.ensures.job (c.stands.ensures.0 c.if-not-stands.false) c.requires.holds.alone c.end_commit.new.self (g.S.Store.objects c.end_commit.new.store) (g.S.Store.faults c.end_commit.new.store) c.end.new.self.jobs (record { dirs = c.self.inside.dirs.room; jobs = c.end.new.self.room; purge = c.self.inside.purge.room }) c.args.encoded.now.op c.in_default.ensures.written (ap (λ (e : Carried). e.op) c.job-job.ensures.valid) c.in_default.ensures.settled c.end.ensures.ended in
    record { ended = its.ended; came = its.came; counted = search rules; sound = its.sound }
