-- Fragments that refuse for want of memory alone refuse as fragments may.
use Rattle.std.specs.Prelude.{◌≡◌}
use Rattle.std.proofs.Common.{sym, subst}
use Rattle.mds_types.specs.declared.refusals.Refusal.{Refusal}
use Rattle.mds_types.specs.declared.refusals.Refusal.TheVariants.{NoMemory}
use Rattle.namespace_ops.specs.Reasons.{IsOfFragments}

-- fragments that refuse for want of memory alone
pub refused_for_memory : (A : Type 0) (a b : A) (reason : Refusal) → reason ≡ NoMemory → IsOfFragments reason
refused_for_memory A a b reason because = subst IsOfFragments (sym because) tt
