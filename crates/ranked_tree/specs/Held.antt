-- What the ranks' caches have: a rank caches only fragments that it holds, and has places of no other live leaf (Weil
-- et al., OSDI 2006). Here the roots are those with the ranks that hold their regions.
use Rattle.std.specs.Prelude.{◌≡◌, ◌⊎◌, ◌<◌, ◌^◌, ℕ, true, false, length, map as each, Option, Some, None}
use Rattle.std.specs.List.{Contains}
use Rattle.std.specs.FinMap as map
use Rattle.mds_types.specs.declared.dentries.Dentry.{Dentry}
use Rattle.mds_types.specs.declared.ids.Ino.{Ino}
use Rattle.mds_types.specs.declared.ids.Rank.{Rank}
use Rattle.mds_types.specs.declared.operations.Op.{Op}
use Rattle.mds_types.specs.declared.refusals.Refusal.{Refusal}
use Rattle.mds_types.specs.Frag.{Fragment, child_of}
use Rattle.mds_types.specs.Shape.{Shape, Looks, Lists, Makes, Sets, Unlinks, Removes, Moves, shape}
use Rattle.mds_types.specs.Tree.{Tree, is_dir_kind, is_directory}
use Rattle.fragtree.specs.FragTree.{leaves_inside}
use Rattle.inode_table.specs.Dirs.{Covers, IsLive, is_known, leaves_of}
use Rattle.namespace_ops.specs.Changes.{IsDentryLeaf, LieHeld, adds, dentry_at, in_directory}
use Rattle.mds_types.specs.declared.inodes.Inode.{Inode}
use Rattle.namespace_ops.specs.declared.plans.Change.{Change}
use Rattle.namespace_ops.specs.declared.plans.Spot.{Spot}
use Rattle.dentry_cache.specs.CacheMap.{At, CacheMap, has_place}
use Rattle.dentry_cache.specs.Came.{Came, NoneEnds}
use Rattle.dentry_cache.specs.Reads.{Reads}
use Rattle.subtree_map.specs.Authority.{Leaf, Roots}
use Rattle.subtree_map.specs.Changes.{is_inside}
use Rattle.mdcache.specs.CacheReads.{IsNewestOf}
use Rattle.mdcache.specs.Changes.{first_leaf}
use Rattle.mdcache.specs.Core.{Core, IsSoundCore, LacksPlacesAt, state_of}
use Rattle.mdcache.specs.State.{State as TreeState}
use Rattle.ranked_tree.specs.Subtrees.{AreRoots, HoldsAt, Rules}

-- each cached fragment is at its leaf's authority, and so is each place of a live leaf; each root's rank is one of
-- those that have a cache
pub record AreHeld (tree : TreeState) (caches : CacheMap) (roots : Roots) : Type 0 where
  pub cached : (leaf : Leaf) (a : At) → map.get caches.held leaf ≡ Some a
      → Rules tree roots leaf (record { 0 = a.rank })
  pub placed : (r : ℕ) (leaf : Leaf) → has_place caches r leaf ≡ true → IsLive tree.homes tree.covers leaf
      → Rules tree roots leaf (record { 0 = r })
  pub ranks : (leaf : Leaf) (rank : Rank) → map.get roots leaf ≡ Some rank → rank.0 < length caches.used

-- the tree is sound, the roots are its own, and each rank caches fragments of leaves that it holds, and has places of
-- no other live leaf
pub record IsOwned (core : Core) (roots : Roots) : Type 0 where
  pub sound : IsSoundCore core
  pub valid : AreRoots (state_of core) roots
  pub held : AreHeld (state_of core) core.caches roots

-- each name of a change lies at its leaf's authority
abbrev pub AreHeldAt : TreeState → Roots → Change → Type 0
AreHeldAt tree roots change = LieHeld (HoldsAt tree roots) change

-- ---- what reads make of the caches

-- a live leaf of a directory that is asked for, at the rank that holds it; or one that a new directory gets
abbrev pub AsksFor : TreeState → Roots → (Asked : ℕ → Type 0) → (Comes : ℕ → Leaf → Type 0) → ℕ → Leaf → Type 0
AsksFor tree roots Asked Comes rank leaf =
    (Asked leaf.0.0 × IsLive tree.homes tree.covers leaf × Rules tree roots leaf (record { 0 = rank }))
    ⊎ Comes rank leaf

-- these leaves were read at most
abbrev pub ReadsFor : Roots → (Asked : ℕ → Type 0) → (Comes : ℕ → Leaf → Type 0) → (old new : Core) → Type 0
ReadsFor roots Asked Comes old new =
    Reads (AsksFor (state_of old) roots Asked Comes) NoneEnds old.objects old.caches new.caches

-- the directories of the dentries that a change names
abbrev pub NamesBy : Option Spot → Option (Spot × Inode) → ℕ → Type 0
NamesBy None None d = ⊥
NamesBy None (Some put) d = d ≡ put.0.at.dir.0
NamesBy (Some spot) None d = d ≡ spot.at.dir.0
NamesBy (Some spot) (Some put) d = (d ≡ spot.at.dir.0) ⊎ (d ≡ put.0.at.dir.0)

abbrev pub NamesDir : Change → ℕ → Type 0
NamesDir change d = NamesBy change.takes change.puts d

-- no directory is made
abbrev pub NoneComes : ℕ → Leaf → Type 0
NoneComes rank leaf = ⊥

-- so of one directory
abbrev pub ReadsDir : Roots → Ino → (old new : Core) → Type 0
ReadsDir roots dir old new = ReadsFor roots (λ (d : ℕ). d ≡ dir.0) NoneComes old new

-- the first leaf of a directory that isn't there yet, at the rank that holds the leaf of its name
pub record ComesAt (tree : TreeState) (roots : Roots) (dentry : Dentry) (ino : Ino) (rank : ℕ)
    (leaf : Leaf) : Type 0 where
  pub first : leaf ≡ first_leaf ino
  pub unknown : is_known tree.homes ino.0 ≡ false
  pub frag : Fragment
  pub picked : IsDentryLeaf tree.covers dentry frag
  pub held : Rules tree roots (dentry.dir, frag) (record { 0 = rank })

-- that of the directory that a change makes
abbrev pub ComesWith : TreeState → Roots → Change → ℕ → Leaf → Type 0
ComesWith tree roots change rank leaf =
    (spot : Spot) × (inode : Inode) × (change ≡ adds spot inode) × (is_dir_kind inode.kind ≡ true)
    × ComesAt tree roots (dentry_at spot) inode.ino rank leaf

-- that of the directory that an operation makes, by the number that is offered
abbrev pub ComesIn : TreeState → Roots → Shape → Ino → ℕ → Leaf → Type 0
ComesIn tree roots (Looks dentry answer) ino rank leaf = ⊥
ComesIn tree roots (Lists dir after max) ino rank leaf = ⊥
ComesIn tree roots (Makes dentry kind mode birth) ino rank leaf =
    (is_dir_kind kind ≡ true) × ComesAt tree roots dentry ino rank leaf
ComesIn tree roots (Sets dentry alteration) ino rank leaf = ⊥
ComesIn tree roots (Unlinks dentry) ino rank leaf = ⊥
ComesIn tree roots (Removes dentry) ino rank leaf = ⊥
ComesIn tree roots (Moves from to) ino rank leaf = ⊥

abbrev pub ComesFor : TreeState → Roots → Op → Option Ino → ℕ → Leaf → Type 0
ComesFor tree roots op None rank leaf = ⊥
ComesFor tree roots op (Some ino) rank leaf = ComesIn tree roots (shape op) ino rank leaf

-- a number may have been offered for it, but where nothing is refused, and nothing changed, there was none
abbrev pub WithOffer : (told : Option Refusal) → (Of : Option Ino → Type 0) → Type 0
WithOffer told Of = (offered : Option Ino) × (told ≡ None → offered ≡ None) × Of offered

-- a leaf is the most recently used of the rank that holds it
abbrev pub IsNewestHeld : TreeState → Roots → CacheMap → Leaf → Type 0
IsNewestHeld tree roots caches leaf = (rank : Rank) × Rules tree roots leaf rank × IsNewestOf caches rank.0 leaf

-- ---- what a change makes of the caches

-- a leaf of a directory that isn't there
abbrev pub IsGone : Tree → ℕ → Leaf → Type 0
IsGone tree rank leaf = is_directory tree leaf.0.0 ≡ false

-- ---- whose places lack

-- so many places lack at the rank that holds a leaf
abbrev pub LacksPlacesFor : ℕ → Core → Roots → Leaf → Type 0
LacksPlacesFor count core roots leaf =
    (rank : Rank) × Rules (state_of core) roots leaf rank × LacksPlacesAt count core rank

-- so many places lack at the rank that holds some live leaf of a directory that is asked for
abbrev pub LacksPlacesAsked : ℕ → Core → Roots → (Asked : ℕ → Type 0) → Type 0
LacksPlacesAsked count core roots Asked =
    (leaf : Leaf) × Asked leaf.0.0 × IsLive core.homes core.covers leaf × LacksPlacesFor count core roots leaf

-- so of one directory
abbrev pub LacksPlacesDir : ℕ → Core → Roots → Ino → Type 0
LacksPlacesDir count core roots dir = LacksPlacesAsked count core roots (λ (d : ℕ). d ≡ dir.0)

-- so many places lack at a rank that holds a leaf of a directory properly inside a fragment
abbrev pub LacksPlacesInside : ℕ → Core → Roots → Ino → Fragment → Type 0
LacksPlacesInside count core roots dir frag =
    (leaf : Leaf) × IsLive core.homes core.covers leaf × (is_inside dir.0 frag leaf ≡ true)
    × LacksPlacesFor count core roots leaf

-- ---- leaves of a directory are regrouped

-- a leaf of these, at a rank that holds them
abbrev pub UsedAt : (Holds : Rank → Type 0) (Named : Leaf → Type 0) → ℕ → Leaf → Type 0
UsedAt Holds Named rank leaf = Holds (record { 0 = rank }) × Named leaf

-- these caches came from others by uses and ends of those leaves at the ranks that hold them
abbrev pub CameAt : (Holds : Rank → Type 0) (Named : Leaf → Type 0) → (old new : CacheMap) → Type 0
CameAt Holds Named old new = Came (UsedAt Holds Named) (λ rank leaf. Named leaf) old new

-- so by uses of one leaf alone
abbrev pub UsesAt : (Holds : Rank → Type 0) → Leaf → (old new : CacheMap) → Type 0
UsesAt Holds leaf old new = Came (UsedAt Holds (λ q. q ≡ leaf)) NoneEnds old new

-- a leaf, or one of its children by so many bits
abbrev pub IsFamilyOf : Ino → Fragment → ℕ → Leaf → Type 0
IsFamilyOf dir frag bits q = (q ≡ (dir, frag)) ⊎ ((i : ℕ) × (i < 2 ^ bits) × (q ≡ (dir, child_of frag i bits)))

-- a leaf of a directory properly inside a fragment, or the leaf that they are merged to
abbrev pub IsMergedHere : Covers → Ino → Fragment → Leaf → Type 0
IsMergedHere covers dir frag leaf =
    Contains (each (in_directory dir.0) (leaves_inside frag (leaves_of covers dir.0))) leaf ⊎ (leaf ≡ (dir, frag))
