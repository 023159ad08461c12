-- The bits below a parent's are taken off the value.
use Rattle.mds_types.proofs.Common.{arith}
use Rattle.std.proofs.Common.{◌<◌}
use Rattle.mds_types.proofs.Fragments.{parent_is_fragment}
use Rattle.mds_types.proofs.frags.Frag.parent.Goals as goal

pub invariant_of-result : goal.invariant_of-result
invariant_of-result c =
    let some : 0 < c.self.inside.bits = omega arith in
    rw c.span.ensures.value (parent_is_fragment (record { bits = c.self.inside.bits; value = c.self.inside.value }) c.self.invariant some)
