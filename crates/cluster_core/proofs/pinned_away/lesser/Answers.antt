use Rattle.cluster_core.proofs.Common.{IsFirstAway, IsOfPinned, IsRootAt, subst}
use Rattle.cluster_core.proofs.AwayLaws.{first_of_both, no_first}
use Rattle.cluster_core.proofs.pinned_away.lesser.Goals as goal

pub returns-in-None : goal.returns-in-None
returns-in-None c s one other = no_first s (IsRootAt s) (IsOfPinned s) c.args.other (subst (IsFirstAway s (IsRootAt s)) c.in-None.is one) other

pub returns-in-Some : goal.returns-in-Some
returns-in-Some c s one other = rw c.lesser_of.ensures (first_of_both s (IsRootAt s) (IsOfPinned s) c.in-Some.first c.args.other (subst (IsFirstAway s (IsRootAt s)) c.in-Some.is one) other)
