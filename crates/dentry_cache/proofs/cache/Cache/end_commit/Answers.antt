use Rattle.dentry_cache.proofs.Common.{IsThere, Job, ap, cached, next_version, subst, sym, ◌∙◌}
use Rattle.dentry_cache.proofs.CommitSteps.{committed, readied_as}
use Rattle.dentry_cache.proofs.EditLaws.{only_used}
use Rattle.dentry_cache.proofs.cache.Cache.end_commit.Goals as goal

pub returns-clause-settled : goal.returns-clause-settled
returns-clause-settled g c =
    let there = subst (λ (j : Job). IsThere (cached c.args.self.now.entries (j.ino, j.frag))) (sym c.job-job.ensures.job) c.requires in
    committed _ c.args.encoded.now.job c.args.self.now _ _ _ _ _ c.job-job.ensures.job c.names-names.ensures (c.next_version-version.ensures ∙ ap next_version c.base.ensures.base) (only_used (c.job-job.result.now.ino, c.job-job.result.now.frag) c.args.self.now c.touch.new.self c.touch.result c.touch.ensures there) c.reserve_settled-ready.ensures.same c.settle.ensures

pub returns-then-is_err-clause-kept : goal.returns-then-is_err-clause-kept
returns-then-is_err-clause-kept g c =
    let there = subst (λ (j : Job). IsThere (cached c.args.self.now.entries (j.ino, j.frag))) (sym c.job-job.ensures.job) c.requires in
    readied_as _ c.args.encoded.now.job c.args.self.now _ _ c.job-job.ensures.job (only_used (c.job-job.result.now.ino, c.job-job.result.now.frag) c.args.self.now c.touch.new.self c.touch.result c.touch.ensures there) c.reserve_settled-ready.ensures.same

pub returns-in-Err-clause-kept : goal.returns-in-Err-clause-kept
returns-in-Err-clause-kept g c =
    let there = subst (λ (j : Job). IsThere (cached c.args.self.now.entries (j.ino, j.frag))) (sym c.job-job.ensures.job) c.requires in
    readied_as _ c.args.encoded.now.job c.args.self.now _ _ c.job-job.ensures.job (only_used (c.job-job.result.now.ino, c.job-job.result.now.frag) c.args.self.now c.touch.new.self c.touch.result c.touch.ensures there) c.reserve_settled-ready.ensures.same
