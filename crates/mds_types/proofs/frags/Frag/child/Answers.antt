-- A child stays within its fragment, so its value fits 24 bits and is zero below its own.
use Rattle.mds_types.proofs.Common.{arith, one_shl, subst, ◌+◌, ◌^◌}
use Rattle.std.proofs.Common.{◌<◌, ◌≤◌}
use Rattle.mds_types.proofs.Fragments.{child-bounds, child_is_fragment}
use Rattle.mds_types.proofs.frags.Frag.child.Goals as goal

pub overflow_mul-result : goal.overflow_mul-result
overflow_mul-result c =
    let few : c.self.inside.bits + c.args.nb ≤ 24 = omega arith in
    let below : c.args.i < 2 ^ c.args.nb = subst (λ n. c.args.i < n) (one_shl c.args.nb 32 (omega arith)) c.if-i-nb.false in
    rw c.span.ensures.value (omega (arith, (child-bounds (record { bits = c.self.inside.bits; value = c.self.inside.value }) c.args.i c.args.nb c.self.invariant few below).0))

pub overflow_add-result : goal.overflow_add-result
overflow_add-result c =
    let few : c.self.inside.bits + c.args.nb ≤ 24 = omega arith in
    let below : c.args.i < 2 ^ c.args.nb = subst (λ n. c.args.i < n) (one_shl c.args.nb 32 (omega arith)) c.if-i-nb.false in
    rw c.span.ensures.value (omega (arith, (child-bounds (record { bits = c.self.inside.bits; value = c.self.inside.value }) c.args.i c.args.nb c.self.invariant few below).0))

pub invariant_of-result : goal.invariant_of-result
invariant_of-result c =
    let few : c.self.inside.bits + c.args.nb ≤ 24 = omega arith in
    let below : c.args.i < 2 ^ c.args.nb = subst (λ n. c.args.i < n) (one_shl c.args.nb 32 (omega arith)) c.if-i-nb.false in
    rw c.span.ensures.value (child_is_fragment (record { bits = c.self.inside.bits; value = c.self.inside.value }) c.args.i c.args.nb c.self.invariant few below)
