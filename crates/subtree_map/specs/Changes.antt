-- What a change of the subtree roots makes of the authority of every leaf.
use Rattle.std.specs.Prelude.{◌≡◌, ◌≢◌, ◌⊎◌, ℕ, Bool, true, false, ◌==◌, ◌&&◌, Some, None, IsSome, List}
use Rattle.std.specs.FinMap as map
use Rattle.mds_types.specs.declared.ids.Rank.{Rank}
use Rattle.mds_types.specs.Frag.{Fragment}
use Rattle.fragtree.specs.FragTree.{CanMerge, FitsSplit, IsTree, IsChild, IsSplit, IsMerge, HasLeaf, lies_inside}
use Rattle.inode_table.specs.Dirs.{Homes, Covers, IsLive, IsTable, IsChildless, leaves_of}
use Rattle.mds_types.specs.Leaf.{Leaf}
use Rattle.subtree_map.specs.Authority.{Roots, NearestRoot, HasAuthority, IsSubtrees}

-- what contracts see of a map of subtrees: the roots, the ranks that roots are promised to, and how many more roots fit
-- with no growth
pub record Subtrees : Type 0 where
  pub roots : Roots
  pub promises : Roots
  pub room : ℕ

-- the leaf that a fragment of a directory is
abbrev pub leaf_in_dir : ℕ → Fragment → Leaf
leaf_in_dir d f = (record { 0 = d }, f)

-- a leaf was made a root: every leaf has it as its nearest root now, or the one that it had
abbrev pub IsCutOff : Roots → Roots → Leaf → Type 0
IsCutOff old new root =
    (homes : Homes) (covers : Covers) (leaf was : Leaf) → NearestRoot old homes covers leaf was
    → NearestRoot new homes covers leaf root ⊎ NearestRoot new homes covers leaf was

-- each leaf has the nearest root that it had, and each other root its rank
pub record IsHanded (old new : Roots) (root : Leaf) (rank : Rank) : Type 0 where
  pub here : map.get new root ≡ Some rank
  pub others : (leaf : Leaf) → leaf ≢ root → map.get new leaf ≡ map.get old leaf
  pub nearest : (homes : Homes) (covers : Covers) (leaf was : Leaf) → NearestRoot old homes covers leaf was
      → NearestRoot new homes covers leaf was

-- those of the leaves of d without a rank got this one, and nothing else changed
pub record AreFilled (old new : Roots) (d : ℕ) (leaves : List Fragment) (rank : Rank) : Type 0 where
  pub absent : (f : Fragment) → HasLeaf leaves f → map.get old (leaf_in_dir d f) ≡ None
      → map.get new (leaf_in_dir d f) ≡ Some rank
  pub there : (leaf : Leaf) → IsSome (map.get old leaf) → map.get new leaf ≡ map.get old leaf
  pub elsewhere : (leaf : Leaf) → leaf.0.0 ≢ d → map.get new leaf ≡ map.get old leaf
  pub made : (leaf : Leaf) → map.get old leaf ≡ None → IsSome (map.get new leaf) → (leaf.0.0 ≡ d)
      × HasLeaf leaves leaf.1

-- what each leaf became has the authority that the leaf had
abbrev pub KeepAuthority : Roots → Roots → Homes → Homes → Covers → Covers → (Leaf → Leaf → Type 0) → Type 0
KeepAuthority old new homes now covers later Becomes =
    (leaf after : Leaf) (rank : Rank) → IsLive homes covers leaf → Becomes leaf after
    → HasAuthority old homes covers leaf rank → HasAuthority new now later after rank

-- a leaf stays what it is
abbrev pub Stays : Leaf → Leaf → Type 0
Stays leaf after = after ≡ leaf

-- no root is of a directory, and each other one stays as it is
pub record AreGone (old new : Roots) (d : ℕ) : Type 0 where
  pub gone : (leaf : Leaf) → leaf.0.0 ≡ d → map.get new leaf ≡ None
  pub others : (leaf : Leaf) → leaf.0.0 ≢ d → map.get new leaf ≡ map.get old leaf

-- a leaf of another directory stays what it is
abbrev pub StaysElsewhere : ℕ → Leaf → Leaf → Type 0
StaysElsewhere d leaf after = (leaf.0.0 ≢ d) × (after ≡ leaf)

-- where a directory goes that is no one's parent, the leaves of the others keep their authority
abbrev pub DropsSoundly : Roots → Roots → ℕ → Type 0
DropsSoundly old new d =
    (homes : Homes) (covers : Covers) → IsTable homes covers → IsSubtrees old homes covers → IsChildless homes d → d ≢ 1
    → KeepAuthority old new homes (map.remove homes d) covers (map.remove covers d) (StaysElsewhere d)
    × IsSubtrees new (map.remove homes d) (map.remove covers d)

-- a leaf f of d is split by nb bits: where it was a root its children are roots of its rank, and it is none; nothing
-- else changes
pub record IsRootSplit (old new : Roots) (d : ℕ) (f : Fragment) (nb : ℕ) : Type 0 where
  pub children : (g : Fragment) → IsChild f nb g → IsSome (map.get old (leaf_in_dir d f))
      → map.get new (leaf_in_dir d g) ≡ map.get old (leaf_in_dir d f)
  pub gone : map.get new (leaf_in_dir d f) ≡ None
  pub others : (leaf : Leaf) → leaf ≢ leaf_in_dir d f → ((g : Fragment) → IsChild f nb g → leaf ≢ leaf_in_dir d g)
      → map.get new leaf ≡ map.get old leaf
  pub made : (leaf : Leaf) → IsSome (map.get new leaf) → IsSome (map.get old leaf)
      ⊎ (IsSome (map.get old (leaf_in_dir d f)) × ((g : Fragment) × IsChild f nb g × (leaf ≡ leaf_in_dir d g)))

-- what a leaf becomes at a split: each of the children where it is the one that is split, otherwise itself
abbrev pub BecomesSplit : ℕ → Fragment → ℕ → Leaf → Leaf → Type 0
BecomesSplit d f nb leaf after =
    ((leaf ≢ leaf_in_dir d f) × (after ≡ leaf))
    ⊎ ((leaf ≡ leaf_in_dir d f) × ((g : Fragment) × IsChild f nb g × (after ≡ leaf_in_dir d g)))

-- where the directory gets the leaves that the split makes, all leaves keep their authority, and the children have that
-- of the leaf
abbrev pub SplitsSoundly : Roots → Roots → ℕ → Fragment → ℕ → Type 0
SplitsSoundly old new d f nb =
    (homes : Homes) (covers later : Covers) (to : List Fragment) → IsTable homes covers → IsSubtrees old homes covers
    → IsSplit (leaves_of covers d) to f nb → HasLeaf (leaves_of covers d) f → FitsSplit f nb → IsTree to
    → later ≡ map.insert covers d to → KeepAuthority old new homes homes covers later (BecomesSplit d f nb)
    × IsSubtrees new homes later

-- a leaf is one of d that lies properly inside f
abbrev pub is_inside : ℕ → Fragment → Leaf → Bool
is_inside d f leaf = (leaf.0.0 == d) && lies_inside f leaf.1

-- the leaves of d inside f are merged: none of them is a root, and if one of them was, f is a root of the rank of one
-- of them; nothing else changes
pub record IsRootMerge (old new : Roots) (d : ℕ) (f : Fragment) : Type 0 where
  pub gone : (leaf : Leaf) → is_inside d f leaf ≡ true → map.get new leaf ≡ None
  pub others : (leaf : Leaf) → is_inside d f leaf ≡ false → leaf ≢ leaf_in_dir d f → map.get new leaf ≡ map.get old leaf
  pub some : (leaf : Leaf) → is_inside d f leaf ≡ true → IsSome (map.get old leaf) → IsSome (map.get new (leaf_in_dir d f))
  pub rank : (rank : Rank) → map.get new (leaf_in_dir d f) ≡ Some rank → (leaf : Leaf)
      × ((leaf ≡ leaf_in_dir d f) ⊎ (is_inside d f leaf ≡ true)) × (map.get old leaf ≡ Some rank)

-- what a leaf becomes at a merge: the merged leaf where it is one of those that are merged, otherwise itself
abbrev pub BecomesMerged : ℕ → Fragment → Leaf → Leaf → Type 0
BecomesMerged d f leaf after =
    ((is_inside d f leaf ≡ false) × (after ≡ leaf)) ⊎ ((is_inside d f leaf ≡ true) × (after ≡ leaf_in_dir d f))

-- the leaves of d inside f have one authority
abbrev pub HaveOneAuthority : Roots → Homes → Covers → ℕ → Fragment → Type 0
HaveOneAuthority roots homes covers d f =
    (one other : Leaf) (a b : Rank) → is_inside d f one ≡ true → is_inside d f other ≡ true → IsLive homes covers one
    → IsLive homes covers other
    → HasAuthority roots homes covers one a → HasAuthority roots homes covers other b → a ≡ b

-- where the directory gets the leaves that the merge makes, and the merged leaves had one authority, all leaves keep
-- theirs, and the merged leaf has that of those
abbrev pub MergesSoundly : Roots → Roots → ℕ → Fragment → Type 0
MergesSoundly old new d f =
    (homes : Homes) (covers later : Covers) (to : List Fragment) → IsTable homes covers → IsSubtrees old homes covers
    → HaveOneAuthority old homes covers d f → CanMerge (leaves_of covers d) f → IsMerge (leaves_of covers d) to f
    → IsTree to → later ≡ map.insert covers d to → KeepAuthority old new homes homes covers later (BecomesMerged d f)
    × IsSubtrees new homes later
