use Rattle.mdcache.proofs.AtHandLaws.{begun_are_at_hand, begun_leave_at_hand, ended_are_clean, others_stay_at_hand}
use Rattle.mdcache.proofs.flush_laws.whole_commits_leave_nothing.Goals as goal

pub returns : goal.returns
returns c = record { begun = begun_are_at_hand; left = begun_leave_at_hand; ended = ended_are_clean; others = others_stay_at_hand }
