-- The laws of what reads keep of the tree over caches and a store, and of why their calls are refused.
use Rattle.std.specs.Prelude.{◌≡◌, ℕ, Option, None, Some, refl}
use Rattle.std.proofs.Common.{inl, inr, sym, ap, subst, ◌∙◌, arith, rules}
use Rattle.std.specs.FinMap as map
use Rattle.mds_types.specs.declared.operations.Op.{Op}
use Rattle.mds_types.specs.declared.ids.Rank.{Rank}
use Rattle.mds_types.specs.declared.refusals.Refusal.{Refusal}
use Rattle.objstore.specs.Objects.{faults_in}
use Rattle.dentry_cache.specs.Cache.{Leaf}
use Rattle.namespace_ops.specs.Reasons.{IsOfFragments}
use Rattle.mdcache.specs.Frags.{KeepsState, LacksFor, MayRefuse}
use Rattle.mdcache.specs.Made.{IsUntouched}
use Rattle.mdcache.specs.Core.{Core, LacksPlacesAt, state_of}
use Rattle.mdcache.specs.Shown.{names_of}
use Rattle.mdcache.specs.State.{IsLive, State, UnsavedLeaves}

pub keeps_itself : (a : Core) → KeepsState a a None
keeps_itself a = record { state = refl; unclean = λ rank. refl; count = refl; cap = refl; counted = omega arith }

pub keeps_on : (a b c : Core) (told : Option Refusal) → KeepsState a b None → KeepsState b c told
    → KeepsState a c told
keeps_on a b c told p q =
    record { state = q.state ∙ p.state; unclean = λ rank. q.unclean rank ∙ p.unclean rank; count = q.count ∙ p.count; cap = q.cap ∙ p.cap; counted = omega (arith, p.counted, q.counted) }

-- a refusal that is no fault counts none
pub keeps_refused : (a b : Core) (reason : Refusal) → faults_in reason ≡ 0 → KeepsState a b None
    → KeepsState a b (Some reason)
keeps_refused a b reason none p = record { state = p.state; unclean = p.unclean; count = p.count; cap = p.cap; counted = omega (arith, p.counted, none) }

-- a state that is the same has the same leaves with the same names
pub untouched_by : (a b : Core) (leaf : Leaf) (told : Option Refusal) → KeepsState a b told → IsUntouched (state_of a) (state_of b) leaf
untouched_by a b leaf told kept live = record {
  live = subst (λ (s : State). IsLive s.homes s.covers leaf) (sym kept.state) live;
  names = ap (λ (s : State). names_of s.unsaved s.objects leaf) kept.state;
}

pub untouched_on : (a b c : Core) (leaf : Leaf) → IsUntouched (state_of a) (state_of b) leaf → IsUntouched (state_of b) (state_of c) leaf → IsUntouched (state_of a) (state_of c) leaf
untouched_on a b c leaf p q live = let second = q (p live).live in record { live = second.live; names = second.names ∙ (p live).names }

-- places that lack now lacked before
pub lacked_at : (count : ℕ) (a b : Core) (rank : Rank) → KeepsState a b None → LacksPlacesAt count b rank → LacksPlacesAt count a rank
lacked_at count a b rank kept lacks = omega (arith, kept.cap, ap (λ (m : UnsavedLeaves). map.len m) (kept.unclean rank.0), lacks)

-- where places lack now at a rank that holds a leaf of a directory that is asked for, they lacked before
pub lacked_asked : (count : ℕ) (Asked : State → ℕ → Type 0) (Holds : State → Leaf → Rank → Type 0) (a b : Core) → KeepsState a b None
    → (leaf : Leaf) × Asked (state_of b) leaf.0.0 × (rank : Rank) × Holds (state_of b) leaf rank × LacksPlacesAt count b rank
    → (leaf : Leaf) × Asked (state_of a) leaf.0.0 × (rank : Rank) × Holds (state_of a) leaf rank × LacksPlacesAt count a rank
lacked_asked count Asked Holds a b kept (leaf, asked, rank, holds, lacks) = (
  leaf,
  subst (λ (s : State). Asked s leaf.0.0) kept.state asked,
  rank,
  subst (λ (s : State). Holds s leaf rank) kept.state holds,
  lacked_at count a b rank kept lacks,
)

-- why a call is refused after others that were not, where places that lack now lacked before
pub refused_later : (Now Before : Type 0) (a b c : Core) (op : Op) (reason : Refusal) → (Now → Before) → KeepsState a b None → MayRefuse Now b c op reason → MayRefuse Before a c op reason
refused_later Now Before a b c op reason so kept (inl memory) = inl memory
refused_later Now Before a b c op reason so kept (inr (inl (is, rose))) = inr (inl (is, omega (arith, kept.counted, rose)))
refused_later Now Before a b c op reason so kept (inr (inr (inl (is, lacks)))) = inr (inr (inl (is, so lacks)))
refused_later Now Before a b c op reason so kept (inr (inr (inr (is, lacks)))) = inr (inr (inr (is, subst (λ (s : State). LacksFor op s) kept.state lacks)))

pub refused_so : (NoPlace : Type 0) (a b : Core) (op : Op) (reason : Refusal) → MayRefuse NoPlace a b op reason → IsOfFragments reason
refused_so NoPlace a b op reason is = search rules
