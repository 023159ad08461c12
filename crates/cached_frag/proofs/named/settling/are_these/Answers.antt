use Rattle.cached_frag.proofs.Common.{mark_decides}
use Rattle.cached_frag.proofs.named.settling.are_these.Goals as goal

pub returns-then-not-few : goal.returns-then-not-few
returns-then-not-few c = rw (← c.as_map-names.ensures.names) (λ same. (c.eq.ensures.exact mark_decides).0 same)
