-- The master of a request, and the fragments that it may change (Weil et al., OSDI 2006; this project's own profile).
use Rattle.std.specs.Prelude.{◌≡◌, ◌⊎◌, ℕ, ◌<◌, true, MatchBool, List, length, Option, Some, None}
use Rattle.std.specs.List.{Contains, list_any}
use Rattle.mds_types.specs.declared.dentries.Dentry.{Dentry}
use Rattle.mds_types.specs.declared.dirfrags.Dirfrag.{Dirfrag}
use Rattle.mds_types.specs.declared.ids.Rank.{Rank}
use Rattle.mds_types.specs.declared.operations.Op.{Op}
use Rattle.mds_types.specs.declared.requests.Request.{Request}
use Rattle.mds_types.specs.Shape.{destination_of, main_dentry}
use Rattle.mds_types.specs.Step.{step}
use Rattle.mds_types.specs.Tree.{is_directory}
use Rattle.export_steps.specs.Holder.{IsFrozen}
use Rattle.inboxes.specs.declared.pins.Pin.{Pin}
use Rattle.inboxes.specs.Pins.{is_same_grant}
use Rattle.inode_table.specs.Dirs.{Covers, leaves_of}
use Rattle.namespace_ops.specs.Picks.{pick_of}
use Rattle.namespace_ops.specs.ChangedFragments.{changed_fragments, fragment_of}
use Rattle.namespace_ops.specs.Changes.{in_directory}
use Rattle.namespace_ops.specs.Checked.{Checks}
use Rattle.namespace_ops.specs.declared.plans.Checked.{Checked}
use Rattle.subtree_map.specs.Authority.{Leaf, Roots}
use Rattle.mdcache.specs.Shown.{shown_tree}
use Rattle.mdcache.specs.State.{State as TreeState}
use Rattle.cluster_core.specs.State.{State, held_roots, shown}
use Rattle.ranked_tree.specs.Subtrees.{HoldsAt, Rules}

-- the leaf of a dentry; if there is no dentry, the first leaf of a directory, which has the hash 0
abbrev pub leaf_at : Covers → ℕ → Option Dentry → Leaf
leaf_at covers dir None = in_directory dir (pick_of (leaves_of covers dir) 0)
leaf_at covers dir (Some dentry) = fragment_of covers dentry

-- the leaf whose authority is the master
abbrev pub main_leaf : Covers → Op → Leaf
main_leaf covers op = leaf_at covers (destination_of op) (main_dentry op)

-- the master of an operation at a rank: the authority of its main leaf. If the directory (of a rename, the
-- destination's) doesn't exist, it is the rank itself
abbrev pub IsMasterIn : TreeState → Roots → Rank → Op → Rank → Type 0
IsMasterIn tree roots rank op master =
    MatchBool (is_directory (shown_tree tree) (destination_of op)) (Rules tree roots (main_leaf tree.covers op) master)
    (master ≡ rank)

abbrev pub IsMaster : State → Rank → Op → Rank → Type 0
IsMaster state rank op master = IsMasterIn state.tree state.roots rank op master

-- the authority of a leaf in a cluster's state
abbrev pub IsAuthority : State → Leaf → Rank → Type 0
IsAuthority state leaf rank = Rules state.tree state.roots leaf rank

-- the holder of a leaf, which caches it: its authority, but from Import to Finish the importer of its region
abbrev pub IsHolder : State → Leaf → Rank → Type 0
IsHolder state leaf rank = Rules state.tree (held_roots state) leaf rank

-- a leaf is frozen: it changes no more until the export of its region ends
abbrev pub IsFrozenAt : State → Leaf → Type 0
IsFrozenAt state leaf = IsFrozen state.exports state.roots state.tree.homes state.tree.covers leaf

-- the grant of a leaf to a request
abbrev pub grant_of : Leaf → (client tid : ℕ) → Pin
grant_of leaf client tid = record { dir = leaf.0; frag = leaf.1; client = client; tid = tid }

-- a rank may change a leaf for a request: the leaf isn't frozen, and the rank is its authority or the leaf is granted
-- to the request
abbrev pub MayTouch : State → Rank → Request → Leaf → Type 0
MayTouch state rank request leaf =
    (IsFrozenAt state leaf → ⊥)
    × (IsAuthority state leaf rank ⊎ (list_any (is_same_grant (grant_of leaf request.client request.tid)) state.pins ≡ true))

-- the leaves that an operation would change now
abbrev pub would_change_in : TreeState → Op → List Leaf
would_change_in tree op = changed_fragments tree.limit tree.covers (shown_tree tree) op

abbrev pub would_change : State → Op → List Leaf
would_change state op = would_change_in state.tree op

-- a rank may change each of these leaves for a request
abbrev pub MayTouchEach : State → Rank → Request → List Leaf → Type 0
MayTouchEach state rank request leaves =
    (leaf : Leaf) → Contains leaves leaf → MayTouch state rank request leaf

-- a rank may change all leaves that a request would change
abbrev pub MayTouchAll : State → Rank → Request → Type 0
MayTouchAll state rank request = MayTouchEach state rank request (would_change state request.op)

-- a rank may not change one of these leaves for a request
pub record LacksOneOf (state : State) (rank : Rank) (request : Request) (leaves : List Leaf) : Type 0 where
  pub leaf : Leaf
  pub changes : Contains leaves leaf
  pub barred : MayTouch state rank request leaf → ⊥

-- an operation would change a leaf that is frozen, or a leaf of another authority that isn't granted to the request
abbrev pub MustWait : State → Rank → Request → Type 0
MustWait state rank request = LacksOneOf state rank request (would_change state request.op)

-- ---- words of this crate's own contracts

-- each master of an operation at a rank is one of the ranks
abbrev pub AreMastersThere : State → Rank → Type 0
AreMastersThere state rank =
    (op : Op) (master : Rank) → IsMaster state rank op master → master.0 < length state.inboxes

-- the rank that is named beside a leaf holds it
abbrev pub IsAtHolder : State → Dirfrag → Type 0
IsAtHolder state = HoldsAt state.tree (held_roots state)

-- the checks of an operation gave this result, for some offered number, and with each leaf at its holder
abbrev pub IsCheckedIn : State → Op → Checked → Type 0
IsCheckedIn state op checked =
    (n : ℕ)
    × Checks (shown state) state.tree.covers (IsAtHolder state) op n (step state.tree.limit (shown state) op n) checked
