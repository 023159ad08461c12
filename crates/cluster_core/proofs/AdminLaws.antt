-- What an administrator's steps ask of the subtree roots.
use Rattle.cluster_core.proofs.Common.{AllHave, Covers, Fragment, HaveOneAuthority, Homes, Ino, LacksPlacesAt, LacksPlacesFor, LacksPlacesInside, Rank, Roots, Rules, one_authority, subst, sym, ℕ, ◌∙◌}
use Rattle.mdcache.specs.Core.{Core, state_of as tree_state}
use Rattle.subtree_map.specs.Authority.{Leaf}

-- leaves that all have one rank have one authority
pub one_of_all : (homes : Homes) (covers : Covers) (roots : Roots) (dir : Ino) (f : Fragment) (rank : Rank) → AllHave homes covers roots dir f rank → HaveOneAuthority roots homes covers dir.0 f
one_of_all homes covers roots dir f rank all one other a b inside its live lives has rules =
    one_authority roots homes covers one a rank has (all one live inside) ∙ sym (one_authority roots homes covers other b rank rules (all other lives its))

-- the rank that holds a leaf is its authority: places lack at that one
pub lacks_here : (count : ℕ) (core : Core) (roots : Roots) (leaf : Leaf) (rank : Rank) → Rules (tree_state core) roots leaf rank → LacksPlacesFor count core roots leaf → LacksPlacesAt count core rank
lacks_here count core roots leaf rank mine (other, its, lacks) = subst (λ (r : Rank). LacksPlacesAt count core r) (one_authority roots core.homes core.covers leaf other rank its mine) lacks

pub lacks_inside : (count : ℕ) (core : Core) (roots : Roots) (dir : Ino) (f : Fragment) (rank : Rank) → AllHave core.homes core.covers roots dir f rank → LacksPlacesInside count core roots dir f → LacksPlacesAt count core rank
lacks_inside count core roots dir f rank all (leaf, live, inside, lacks) = lacks_here count core roots leaf rank (all leaf live inside) lacks
