use Rattle.mdcache.proofs.Common.{[], contents, leaf_cmp, sym, ◌∙◌, ◌∷◌}
use Rattle.mdcache.proofs.NextLaws.{next_is}
use Rattle.mdcache.proofs.standing_jobs.first_after.Goals as goal

pub returns : goal.returns
returns c = next_is (contents leaf_cmp c.args.jobs.now) c.args.after (c.in_ok-next.field-0.now ∷ c.next.new.self) (sym c.in_ok-next.ensures.steps ∙ c.rest_after.ensures)

pub returns-in_err-next : goal.returns-in_err-next
returns-in_err-next c = rw c.from_residual.ensures (next_is (contents leaf_cmp c.args.jobs.now) c.args.after [] (sym c.in_err-next.ensures.steps.0 ∙ c.rest_after.ensures))
