use Rattle.mds_types.proofs.Common.{has_written_append, has_written_of_eq, rules}
use Rattle.mds_types.proofs.Fragments.{digits_more}
use Rattle.mds_types.proofs.frags.FragDisplay.fmt.Goals as goal

pub loop-k-preserved : goal.loop-k-preserved
loop-k-preserved g c = λ p.
    has_written_of_eq _ _ _ _ _ (digits_more c.args.self.now c.loop-k.k c.span.result c.span.ensures.value) (has_written_append _ _ _ _ _ _ (c.loop-k.invariant p) (search rules))
