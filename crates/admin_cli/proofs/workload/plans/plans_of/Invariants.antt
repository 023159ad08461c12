use Rattle.admin_cli.proofs.Common.{vec_len, ◌≡◌}
use Rattle.admin_cli.proofs.workload.plans.plans_of.Given as goal

-- so far each rank below has its plan
abbrev pub invariant-loop-rank : goal.invariant-loop-rank
invariant-loop-rank l = vec_len l.plans ≡ l.rank
