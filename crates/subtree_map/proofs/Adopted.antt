-- A new directory comes in below the leaves that stand.
use Rattle.subtree_map.proofs.Common.{Covers, HasAuthority, Home, Homes, IsLive, IsSubtrees, IsTable, Leaf, MayCome, NearestRoot, Rank, Roots, ap, false, inherited, is_known, is_some, itself, still_known, sym, true, ℕ, ◌==◌, ◌||◌, ◌∙◌, ◌≡◌}
use Rattle.std.specs.FinMap as map
use Rattle.sorted_map.proofs.NatKeys as nat
use Rattle.subtree_map.proofs.Nearest.{holder_is_leaf}

-- a directory that comes in was not known
unknown : (homes : Homes) (d : ℕ) (home : Home) → MayCome homes d home → (x : ℕ) → is_known homes x ≡ true → x ≡ d → ⊥
unknown homes d home may x known same =
    let gone : (x == 1) || is_some (map.get homes x) ≡ is_some (map.get homes x) = ap (λ b. b || is_some (map.get homes x)) (nat.is_apart x 1 (λ root. may.other (sym same ∙ root))) in
    let none : is_some (map.get homes x) ≡ false = ap is_some (ap (map.get homes) same ∙ may.fresh) in
    let clash = sym none ∙ sym gone ∙ known in
    cc

pub adopted_authority : (roots : Roots) (homes : Homes) (covers : Covers) (d : ℕ) (home : Home) (leaf : Leaf) (rank : Rank) → IsTable homes covers → MayCome homes d home → IsLive homes covers leaf
    → HasAuthority roots homes covers leaf rank → HasAuthority roots (map.insert homes d home) covers leaf rank
adopted_authority roots homes covers d home leaf rank table may is has = record { root = has.root; nearest = way leaf has.root is has.nearest; ranked = has.ranked }
  where
    way : (leaf root : Leaf) → IsLive homes covers leaf → NearestRoot roots homes covers leaf root → NearestRoot roots (map.insert homes d home) covers leaf root
    way _ _ is (itself root r has) = itself root r has
    way _ _ is (inherited leaf holder root place none stands holds rest) =
        inherited leaf holder root place none (nat.get_beside homes d home leaf.0.0 (unknown homes d home may leaf.0.0 is.known) ∙ stands) holds
        (way holder root (holder_is_leaf homes covers table leaf.0.0 place holder stands holds) rest)

pub adopted_valid : (roots : Roots) (homes : Homes) (covers : Covers) (d : ℕ) (home : Home) → IsTable homes covers → MayCome homes d home → IsSubtrees roots homes covers → IsSubtrees roots (map.insert homes d home) covers
adopted_valid roots homes covers d home table may valid = record {
  top = valid.top;
  live = λ root is. let live = valid.live root is in record { known = still_known homes d home root.0.0 live.known; stands = live.stands };
}
