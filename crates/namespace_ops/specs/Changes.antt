-- Changes of the tree: which an operation makes, what they leave, which leaves they change, and where they may be made.
use Rattle.std.specs.Prelude.{◌≡◌, ℕ, Bool, true, false, cond, ◌&&◌, ◌||◌, ◌==◌, ◌⊎◌, ◌++◌, ◌∷◌, [], List, map as map_list, Option, Some, None, IfSome}
use Rattle.std.specs.Ordering.{eq_by_cmp}
use Rattle.std.specs.FinMap as map
use Rattle.mds_types.specs.declared.ids.Ino.{Ino}
use Rattle.mds_types.specs.declared.dentries.Dentry.{Dentry}
use Rattle.mds_types.specs.declared.dirfrags.Dirfrag.{Dirfrag}
use Rattle.mds_types.specs.declared.inodes.Inode.{Inode}
use Rattle.mds_types.specs.declared.inodes.Kind.{Kind}
use Rattle.mds_types.specs.declared.operations.Op.{Op}
use Rattle.mds_types.specs.declared.replies.Reply.{Reply}
use Rattle.mds_types.specs.declared.replies.Reply.TheVariants.{Entry, Done}
use Rattle.mds_types.specs.Frag.{Fragment}
use Rattle.mds_types.specs.Shape.{Shape, Looks, Lists, Makes, Sets, Unlinks, Removes, Moves, shape}
use Rattle.mds_types.specs.Tree.{Tree, dentry_cmp, is_dir_kind, is_directory, IsUnused}
use Rattle.mds_types.specs.Step.{IsMove}
use Rattle.mds_types.specs.Outcomes.{is_errno}
use Rattle.fragtree.specs.FragTree.{IsPick}
use Rattle.namehash.specs.Rjenkins.{hash_of}
use Rattle.inode_table.specs.Dirs.{Covers, leaves_of}
use Rattle.inode_table.specs.TreeChanges.{MayAdd, MaySet, MayRemove}
use Rattle.mds_types.specs.Leaf.{Leaf, leaf_of}
use Rattle.namespace_ops.specs.declared.plans.Spot.{Spot}
use Rattle.namespace_ops.specs.declared.plans.Change.{Change}

-- the dentry that lies at a spot
abbrev pub dentry_at : Spot → Dentry
dentry_at spot = record { dir = spot.at.dir; name = spot.name }

-- a new inode comes to a spot
abbrev pub adds : Spot → Inode → Change
adds spot inode = record { takes = None; puts = Some (spot, inode); comes = true; gone = None }

-- the inode at a spot gets other attributes
abbrev pub sets : Spot → Inode → Change
sets spot inode = record { takes = None; puts = Some (spot, inode); comes = false; gone = None }

-- the entry at a spot goes, and with it the directory of this number, if it is one
abbrev pub removes : Spot → Option Ino → Change
removes spot went = record { takes = Some spot; puts = None; comes = false; gone = went }

-- the inode at one spot moves to another, where the directory of this number is replaced, if one is
abbrev pub moves : Spot → Spot → Inode → Option Ino → Change
moves from to inode went = record { takes = Some from; puts = Some (to, inode); comes = false; gone = went }

-- the name that loses its inode is this dentry
abbrev pub LosesName : Dentry → Option Spot → Type 0
LosesName dentry None = ⊥
LosesName dentry (Some spot) = dentry_at spot ≡ dentry

-- the name that gets an inode is this dentry, and the inode is such a one
abbrev pub PutsAt : Dentry → (Inode → Type 0) → Option (Spot × Inode) → Type 0
PutsAt dentry Is None = ⊥
PutsAt dentry Is (Some put) = (dentry_at put.0 ≡ dentry) × Is put.1

-- a new inode of this kind at this dentry
pub record IsAddAt (dentry : Dentry) (kind : Kind) (change : Change) : Type 0 where
  pub takes : change.takes ≡ None
  pub puts : PutsAt dentry (λ (inode : Inode). inode.kind ≡ kind) change.puts
  pub comes : change.comes ≡ true
  pub gone : change.gone ≡ None

-- other attributes for the inode at this dentry
pub record IsSetAt (dentry : Dentry) (change : Change) : Type 0 where
  pub takes : change.takes ≡ None
  pub puts : PutsAt dentry (λ (inode : Inode). Unit {0}) change.puts
  pub comes : change.comes ≡ false
  pub gone : change.gone ≡ None

-- the entry at this dentry goes
pub record IsRemovalAt (dentry : Dentry) (change : Change) : Type 0 where
  pub takes : LosesName dentry change.takes
  pub puts : change.puts ≡ None
  pub comes : change.comes ≡ false

-- the entry at this dentry goes, and it is no directory
pub record IsUnlinkAt (dentry : Dentry) (change : Change) : Type 0 where
  pub removal : IsRemovalAt dentry change
  pub gone : change.gone ≡ None

-- the entry at one dentry moves to the other
pub record IsMoveTo (here there : Dentry) (change : Change) : Type 0 where
  pub takes : LosesName here change.takes
  pub puts : PutsAt there (λ (inode : Inode). Unit {0}) change.puts
  pub comes : change.comes ≡ false

-- what is done makes this change, where it makes one
abbrev pub IsChangeIn : Shape → Change → Type 0
IsChangeIn (Looks dentry answer) change = ⊥
IsChangeIn (Lists dir after max) change = ⊥
IsChangeIn (Makes dentry kind mode birth) change = IsAddAt dentry kind change
IsChangeIn (Sets dentry alteration) change = IsSetAt dentry change
IsChangeIn (Unlinks dentry) change = IsUnlinkAt dentry change
IsChangeIn (Removes dentry) change = IsRemovalAt dentry change
IsChangeIn (Moves from to) change = IsMoveTo from to change

abbrev pub IsChangeOf : Op → Change → Type 0
IsChangeOf op change = IsChangeIn (shape op) change

-- it changes nothing whatever it answers: it reads, or moves to where it is
abbrev pub stays_in : Shape → Bool
stays_in (Looks dentry answer) = true
stays_in (Lists dir after max) = true
stays_in (Makes dentry kind mode birth) = false
stays_in (Sets dentry alteration) = false
stays_in (Unlinks dentry) = false
stays_in (Removes dentry) = false
stays_in (Moves from to) = eq_by_cmp dentry_cmp from to

abbrev pub stays : Op → Bool
stays op = stays_in (shape op)

-- an operation changes nothing with this reply: an errno, a read, a rename onto itself
abbrev pub is_idle : Op → Reply → Bool
is_idle op reply = is_errno reply || stays op

-- it concerns the directory d: one that it names
abbrev pub ConcernsIn : Shape → ℕ → Type 0
ConcernsIn (Looks dentry answer) d = d ≡ dentry.dir.0
ConcernsIn (Lists dir after max) d = d ≡ dir
ConcernsIn (Makes dentry kind mode birth) d = d ≡ dentry.dir.0
ConcernsIn (Sets dentry alteration) d = d ≡ dentry.dir.0
ConcernsIn (Unlinks dentry) d = d ≡ dentry.dir.0
ConcernsIn (Removes dentry) d = d ≡ dentry.dir.0
ConcernsIn (Moves from to) d = (d ≡ from.dir.0) ⊎ (d ≡ to.dir.0)

abbrev pub Concerns : Op → ℕ → Type 0
Concerns op d = ConcernsIn (shape op) d

-- an operation reads the directory d: a directory that it concerns
abbrev pub ReadsDirectory : Tree → Op → ℕ → Type 0
ReadsDirectory tree op d = Concerns op d × (is_directory tree d ≡ true)

-- the inode that an operation answers: one that comes, or has other attributes; of one that is taken or moves none
abbrev pub reply_by : Option Spot → Option (Spot × Inode) → Reply
reply_by None None = Done
reply_by None (Some put) = Entry put.1
reply_by (Some spot) puts = Done

-- what an operation answers that makes a change
abbrev pub reply_of : Change → Reply
reply_of change = reply_by change.takes change.puts

-- the tree once a name lost its inode, if one does
abbrev pub taken : Tree → Option Spot → Tree
taken tree None = tree
taken tree (Some spot) = map.remove tree (dentry_at spot)

-- the tree once a name got an inode, if one does
abbrev pub put : Tree → Option (Spot × Inode) → Tree
put tree None = tree
put tree (Some one) = map.insert tree (dentry_at one.0) one.1

-- the tree after a change
abbrev pub changed : Tree → Change → Tree
changed tree change = put (taken tree change.takes) change.puts

-- the leaf of a dentry: the one that its name's hash picks
abbrev pub IsDentryLeaf : Covers → Dentry → Fragment → Type 0
IsDentryLeaf covers dentry leaf = IsPick (leaves_of covers dentry.dir.0) (hash_of dentry.name) leaf

-- a spot is the one of its dentry: its fragment is the leaf that the name's hash picks
abbrev pub IsSpot : Covers → Spot → Type 0
IsSpot covers spot = IsDentryLeaf covers (dentry_at spot) spot.at.frag

-- the number of what stands at a dentry, if that is a directory
abbrev pub directory_at : Option Inode → Option Ino
directory_at None = None
directory_at (Some inode) = cond (is_dir_kind inode.kind) (Some inode.ino) None

-- the number of the directory that goes: of what is taken, or, where that is put, of what stood there
abbrev pub directory_gone : Tree → Option Spot → Option (Spot × Inode) → Option Ino
directory_gone tree None puts = None
directory_gone tree (Some spot) None = directory_at (map.get tree (dentry_at spot))
directory_gone tree (Some spot) (Some put) = directory_at (map.get tree (dentry_at put.0))

-- a change has the spot of each of its names, and the number of the directory that goes
pub record Carries (tree : Tree) (covers : Covers) (change : Change) : Type 0 where
  pub taken : IfSome change.takes (IsSpot covers)
  pub put : IfSome change.puts (λ put. IsSpot covers put.0)
  pub gone : change.gone ≡ directory_gone tree change.takes change.puts

-- an inode may come or get other attributes, an entry may go, or the inode at one dentry may move to the other
abbrev pub TakesBy : Tree → Option Spot → Option (Spot × Inode) → Bool → Type 0
TakesBy tree None None comes = ⊥
TakesBy tree None (Some put) true = MayAdd tree (dentry_at put.0) put.1
TakesBy tree None (Some put) false = MaySet tree (dentry_at put.0) put.1
TakesBy tree (Some spot) None true = ⊥
TakesBy tree (Some spot) None false = MayRemove tree (dentry_at spot)
TakesBy tree (Some spot) (Some put) true = ⊥
TakesBy tree (Some spot) (Some put) false = IsMove tree (dentry_at spot) (dentry_at put.0) put.1

-- the tree can take a change
abbrev pub Takes : Tree → Change → Type 0
Takes tree change = TakesBy tree change.takes change.puts change.comes

-- a change may be made
pub record MayChange (tree : Tree) (covers : Covers) (change : Change) : Type 0 where
  pub carries : Carries tree covers change
  pub takes : Takes tree change

-- each name of a change lies where its rank holds the leaf
pub record LieHeld (Holds : Dirfrag → Type 0) (change : Change) : Type 0 where
  pub taken : IfSome change.takes (λ spot. Holds spot.at)
  pub put : IfSome change.puts (λ put. Holds put.0.at)

-- a fragment with its directory
abbrev pub in_directory : ℕ → Fragment → Leaf
in_directory dir f = (record { 0 = dir }, f)

-- all leaves of a directory, by value
abbrev pub leaves : Covers → ℕ → List Leaf
leaves covers dir = map_list (in_directory dir) (leaves_of covers dir)

-- all leaves of a directory that goes, if one does
abbrev pub leaves_gone : Covers → Option Ino → List Leaf
leaves_gone covers None = []
leaves_gone covers (Some dir) = leaves covers dir.0

-- the leaf of a name that loses its inode, and of one that gets one
abbrev pub leaf_taken : Option Spot → List Leaf
leaf_taken None = []
leaf_taken (Some spot) = leaf_of spot.at ∷ []

abbrev pub leaf_put : Option (Spot × Inode) → List Leaf
leaf_put None = []
leaf_put (Some put) = leaf_of put.0.at ∷ []

-- the fragments of a change: those of its names, and all of a directory that goes
abbrev pub fragments_of : Covers → Change → List Leaf
fragments_of covers change = leaf_taken change.takes ++ (leaf_put change.puts ++ leaves_gone covers change.gone)

-- those of a planned change, if there is one
abbrev pub fragments_in : Covers → Option Change → List Leaf
fragments_in covers None = []
fragments_in covers (Some change) = fragments_of covers change

-- two leaves are one
abbrev pub same_leaf : Leaf → Leaf → Bool
same_leaf a b = (a.0.0 == b.0.0) && ((a.1.value == b.1.value) && (a.1.bits == b.1.bits))

-- a second leaf, unless it is the first
abbrev pub unless_same : Leaf → Leaf → List Leaf
unless_same first other = cond (same_leaf first other) [] (other ∷ [])

-- the leaf of the name that gets an inode, unless it is that of the one that loses it
abbrev pub other_put : Option Spot → Option (Spot × Inode) → List Leaf
other_put None puts = leaf_put puts
other_put (Some spot) None = []
other_put (Some spot) (Some put) = unless_same (leaf_of spot.at) (leaf_of put.0.at)

-- the fragments of a change, each once
abbrev pub named_once : Covers → Change → List Leaf
named_once covers change =
    leaf_taken change.takes ++ (other_put change.takes change.puts ++ leaves_gone covers change.gone)

-- a new inode, where one comes, has such a number
abbrev pub IsNumbered : (ℕ → Type 0) → Change → Type 0
IsNumbered IsNumber change = change.comes ≡ true → IfSome change.puts (λ put. IsNumber put.1.ino.0)

-- a number that is offered for a new inode is unused, and one that a new inode may have
abbrev pub IsOffered : Tree → (ℕ → Type 0) → Option Ino → Type 0
IsOffered tree IsNumber None = Unit {0}
IsOffered tree IsNumber (Some number) = IsUnused tree number.0 × IsNumber number.0
