use Rattle.dentry_cache.proofs.StandingLaws.{changed_can_end, standing_is_unclean, taken_can_end}
use Rattle.dentry_cache.proofs.laws.snapshots_stand.Goals as goal

pub returns-clause-taken : goal.returns-clause-taken
returns-clause-taken c = taken_can_end

pub returns-clause-changed : goal.returns-clause-changed
returns-clause-changed c = changed_can_end

pub returns-clause-unclean : goal.returns-clause-unclean
returns-clause-unclean c = standing_is_unclean
