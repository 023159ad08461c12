-- Regions divide the leaves, and roots bound them.
use Rattle.subtree_map.proofs.Common.{BoundsOneRegion, Covers, HasOneRoot, HoldsDentry, Home, Homes, IsInOneRegion, IsLive, IsSome, IsSubtrees, IsTable, Leaf, NearestRoot, Roots, Some, ap, is_known, is_some, subst, sym, true, ℕ, ◌||◌, ◌∙◌, ◌≡◌, ◌≢◌}
use Rattle.std.specs.FinMap as map
use Rattle.sorted_map.proofs.NatKeys as nat
use Rattle.subtree_map.proofs.Options.{value_of, one_value}
use Rattle.subtree_map.proofs.Nearest.{is_ranked, one_root, some_root, one_holder, some_holder, holder_is_leaf}

pub one_nearest : (roots : Roots) (homes : Homes) (covers : Covers) (leaf : Leaf) → IsTable homes covers → IsSubtrees roots homes covers → IsLive homes covers leaf → HasOneRoot roots homes covers leaf
one_nearest roots homes covers leaf table valid is =
    let near = some_root roots homes covers table valid leaf is in
    record {
      root = near.0;
      is_root = ap is_some (is_ranked roots homes covers leaf near.0 near.1).1;
      nearest = near.1;
      alone = λ other its. one_root roots homes covers leaf other near.0 its near.1;
    }

pub one_region : (roots : Roots) (homes : Homes) (covers : Covers) (leaf : Leaf) → IsTable homes covers → IsSubtrees roots homes covers → IsLive homes covers leaf → IsInOneRegion roots homes covers leaf
one_region roots homes covers leaf table valid is =
    let near = one_nearest roots homes covers leaf table valid is in
    record {
      root = near.root;
      is_root = near.is_root;
      within = record { stands = is; nearest = near.nearest };
      alone = λ other its. near.alone other its.nearest;
    }

-- a directory that is known and not the root stands somewhere
pub stands_somewhere : (homes : Homes) (d : ℕ) → is_known homes d ≡ true → d ≢ 1 → (home : Home) × (map.get homes d ≡ Some home)
stands_somewhere homes d known apart = value_of (map.get homes d) (sym (ap (λ b. b || is_some (map.get homes d)) (nat.is_apart d 1 apart)) ∙ known)

pub one_bounded : (roots : Roots) (homes : Homes) (covers : Covers) (bound : Leaf) → IsTable homes covers → IsSubtrees roots homes covers → IsSome (map.get roots bound) → bound.0.0 ≢ 1 → BoundsOneRegion roots homes covers bound
one_bounded roots homes covers bound table valid is_root apart =
    let place = stands_somewhere homes bound.0.0 (valid.live bound is_root).known apart in
    let up = some_holder homes covers table place.0 in
    let near = one_nearest roots homes covers up.0 table valid (holder_is_leaf homes covers table bound.0.0 place.0 up.0 place.1 up.1) in
    record {
      root = near.root;
      is_root = near.is_root;
      bounds = record { is_root = is_root; home = place.0; holder = up.0; stands = place.1; holds = up.1; nearest = near.nearest };
      alone = λ other its.
          let homes_same : its.home ≡ place.0 = one_value (map.get homes bound.0.0) its.home place.0 its.stands place.1 in
          let holder_same : its.holder ≡ up.0 = one_holder covers place.0 its.holder up.0 (subst (λ h. HoldsDentry covers h its.holder) homes_same its.holds) up.1 in
          near.alone other (subst (λ k. NearestRoot roots homes covers k other) holder_same its.nearest);
    }
