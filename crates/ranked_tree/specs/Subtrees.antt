-- The subtree roots beside the tree: what each change of the tree makes of them, and that no leaf which stays gets
-- another authority.
use Rattle.std.specs.Prelude.{◌≡◌, ℕ, ◌+◌, ◌<◌, ◌≤◌, true, List, Option, Some, None, MatchBool}
use Rattle.std.specs.FinMap as map
use Rattle.mds_types.specs.declared.dentries.Dentry.{Dentry}
use Rattle.mds_types.specs.declared.ids.Ino.{Ino}
use Rattle.mds_types.specs.declared.ids.Rank.{Rank}
use Rattle.mds_types.specs.declared.inodes.Inode.{Inode}
use Rattle.mds_types.specs.Frag.{Fragment, span}
use Rattle.mds_types.specs.Tree.{is_dir_kind}
use Rattle.mds_types.specs.declared.dirfrags.Dirfrag.{Dirfrag}
use Rattle.mds_types.specs.Leaf.{leaf_of}
use Rattle.fragtree.specs.FragTree.{HasLeaf, IsChild, lies_inside}
use Rattle.inode_table.specs.Dirs.{Covers, Homes, IsLive}
use Rattle.inode_table.specs.TreeTable.{home_at}
use Rattle.namespace_ops.specs.declared.plans.Change.{Change}
use Rattle.namespace_ops.specs.declared.plans.Spot.{Spot}
use Rattle.namespace_ops.specs.Changes.{dentry_at}
use Rattle.export_steps.specs.Holder.{holding}
use Rattle.export_steps.specs.Standing.{Standing}
use Rattle.subtree_map.specs.Authority.{HasAuthority, IsSubtrees, Leaf, NearestRoot, Roots}
use Rattle.subtree_map.specs.Changes.{AreGone, is_inside}
use Rattle.subtree_map.specs.Moves.{KeepsRanksOf}
use Rattle.mdcache.specs.State.{State as TreeState}

-- the authority of a leaf in a tree with these roots
abbrev pub Rules : TreeState → Roots → Leaf → Rank → Type 0
Rules tree roots leaf rank = HasAuthority roots tree.homes tree.covers leaf rank

-- a rank holds a leaf: it is its authority
abbrev pub HoldsAt : TreeState → Roots → Dirfrag → Type 0
HoldsAt tree roots at = Rules tree roots (leaf_of at) at.rank

-- no export stands, and no leaf of a directory is a root: none is frozen, and each has the authority of the leaf where the
-- directory's name lies
abbrev pub Inherits : Roots → Standing → Ino → Type 0
Inherits roots exports dir = (exports ≡ map.empty) × ((leaf : Leaf) → leaf.0.0 ≡ dir.0 → map.get roots leaf ≡ None)

-- each leaf of the root directory is a root, and only leaves are
abbrev pub AreRoots : TreeState → Roots → Type 0
AreRoots tree roots = IsSubtrees roots tree.homes tree.covers

-- each leaf that stood and still stands has the authority that it had
abbrev pub KeepsAuthorities : (old new : TreeState) → (before after : Roots) → Type 0
KeepsAuthorities old new before after =
    (leaf : Leaf) (rank : Rank) → IsLive old.homes old.covers leaf → IsLive new.homes new.covers leaf
    → Rules old before leaf rank → Rules new after leaf rank

-- so do the leaves outside the region of a root, if one is named
abbrev pub KeepsOutside : Option Leaf → (old new : TreeState) → (before after : Roots) → Type 0
KeepsOutside None old new before after = KeepsAuthorities old new before after
KeepsOutside (Some root) old new before after =
    (leaf : Leaf) (rank : Rank) → IsLive old.homes old.covers leaf → IsLive new.homes new.covers leaf
    → (NearestRoot before old.homes old.covers leaf root → ⊥) → Rules old before leaf rank
    → Rules new after leaf rank

-- no root is of a rank that none was of
abbrev pub NoNewRank : (before after : Roots) → Type 0
NoNewRank before after =
    (leaf : Leaf) (rank : Rank) → map.get after leaf ≡ Some rank → (other : Leaf) × (map.get before other ≡ Some rank)

-- a directory that went has no root any more, and each other root is as it was
abbrev pub LoseDirectory : (before after : Roots) → Option Ino → Type 0
LoseDirectory before after None = after ≡ before
LoseDirectory before after (Some dir) = AreGone before after dir.0

-- an inode is about to move to a dentry: of a directory those leaves that would inherit another rank there are roots of
-- the one that they have
abbrev pub SettleMove : TreeState → (before after : Roots) → Dentry → Inode → Type 0
SettleMove tree before after to inode =
    MatchBool (is_dir_kind inode.kind) (KeepsRanksOf before after tree.homes tree.covers inode.ino.0 (home_at to))
    (after ≡ before)

-- before a change the roots of a directory that it moves are settled
abbrev pub SettleBy : Option Spot → Option (Spot × Inode) → TreeState → (before after : Roots) → Type 0
SettleBy None puts tree before after = after ≡ before
SettleBy (Some spot) None tree before after = after ≡ before
SettleBy (Some spot) (Some put) tree before after = SettleMove tree before after (dentry_at put.0) put.1

abbrev pub SettleMoving : Change → TreeState → (before after : Roots) → Type 0
SettleMoving change tree before after = SettleBy change.takes change.puts tree before after

-- what a change makes of the roots: those of a directory that moves are settled first, and a directory that goes loses
-- its own
abbrev pub FollowChange : Change → TreeState → (before after : Roots) → Type 0
FollowChange change tree before after =
    (settled : Roots) × SettleMoving change tree before settled × LoseDirectory settled after change.gone

-- ---- splits and merges

-- each child of a leaf that was split has the authority that the leaf had
abbrev pub GivesToChildren : (old new : TreeState) → (before after : Roots) → Ino → Fragment → ℕ → Type 0
GivesToChildren old new before after dir frag bits =
    (child : Fragment) (rank : Rank) → IsChild frag bits child → Rules old before (dir, frag) rank
    → Rules new after (dir, child) rank

-- the leaf that was merged has the authority that each of those had which were merged
abbrev pub TakesOver : (old new : TreeState) → (before after : Roots) → Ino → Fragment → Type 0
TakesOver old new before after dir frag =
    (leaf : Leaf) (rank : Rank) → is_inside dir.0 frag leaf ≡ true → IsLive old.homes old.covers leaf
    → Rules old before leaf rank → Rules new after (dir, frag) rank

-- each leaf of a directory that lies properly inside a fragment has this rank as its authority
abbrev pub AllHave : Homes → Covers → Roots → Ino → Fragment → Rank → Type 0
AllHave homes covers roots dir frag rank =
    (leaf : Leaf) → IsLive homes covers leaf → is_inside dir.0 frag leaf ≡ true
    → HasAuthority roots homes covers leaf rank

-- the leaf properly inside a fragment that contains a hash, which isn't before its first; without one each of those
-- inside begins before the hash
abbrev pub IsInsideAt : List Fragment → Fragment → ℕ → Option Fragment → Type 0
IsInsideAt leaves frag hash None =
    (leaf : Fragment) → HasLeaf leaves leaf → lies_inside frag leaf ≡ true → leaf.value < hash
IsInsideAt leaves frag hash (Some leaf) =
    HasLeaf leaves leaf × (lies_inside frag leaf ≡ true) × (leaf.value ≤ hash) × (hash < leaf.value + span leaf.bits)

-- each leaf that stood and still stands has the holder that it had
abbrev pub KeepsHolders : (old new : TreeState) → (before after : Roots) → (exports later : Standing) → Type 0
KeepsHolders old new before after exports later =
    KeepsAuthorities old new (holding exports before) (holding later after)

-- what a step leaves of the roots: each leaf that stays has the authority and the holder that it had, no rank has its
-- first root, and they are roots still; the exports stand as they stood
pub record KeepsRoots (old new : TreeState) (before after : Roots) (exports later : Standing) : Type 0 where
  pub authorities : KeepsAuthorities old new before after
  pub holders : KeepsHolders old new before after exports later
  pub ranks : NoNewRank before after
  pub valid : AreRoots new after
  pub stand : later ≡ exports
