-- The directory table: where each directory stands, the leaves of each, CephFS's `fragtree_t`, how many entries it has,
-- and its pin, CephFS's `export_pin`.
use Rattle.std.specs.Prelude.{◌≡◌, ◌≢◌, ◌⊎◌, ℕ, zero, suc, ◌+◌, ◌-◌, Bool, true, false, ◌||◌, ◌==◌, is_some, Option, Some, None, List, [], ◌∷◌}
use Rattle.std.specs.Ordering.{nat_cmp}
use Rattle.std.specs.FinMap as map
use Rattle.mds_types.specs.Frag.{Fragment, root_fragment}
use Rattle.mds_types.specs.Leaf.{Leaf}
use Rattle.mds_types.specs.declared.ids.Ino.{Ino}
use Rattle.mds_types.specs.declared.ids.Rank.{Rank}
use Rattle.mds_types.specs.declared.refusals.Refusal.{Refusal}
use Rattle.mds_types.specs.declared.refusals.Refusal.TheVariants.{NoMemory, NoSuchFrag}
use Rattle.fragtree.specs.FragTree.{HasLeaf, IsPick, IsTree}
use Rattle.inode_table.specs.declared.dirs.Home.{Home}

-- from the number of each directory but the root to its parent and name
abbrev pub Homes : Type 0
Homes = map.FinMap nat_cmp Home

-- from the number of a directory to its leaves; a directory with no row has the one leaf `*`
abbrev pub Covers : Type 0
Covers = map.FinMap nat_cmp (List Fragment)

-- from the number of each directory to how many entries it has
abbrev pub Counts : Type 0
Counts = map.FinMap nat_cmp ℕ

-- from the number of each directory with a pin to the rank that it names
abbrev pub DirPins : Type 0
DirPins = map.FinMap nat_cmp Rank

-- what contracts see of a table: the homes and the leaves, how many entries each directory has, the pins, and how many
-- more directories still fit with no growth
pub record DirTable : Type 0 where
  pub homes : Homes
  pub trees : Covers
  pub counts : Counts
  pub pins : DirPins
  pub room : ℕ

-- the leaves of a row, `*` alone where there is no row
abbrev pub or_whole : Option (List Fragment) → List Fragment
or_whole None = root_fragment ∷ []
or_whole (Some leaves) = leaves

-- the leaves of a directory
abbrev pub leaves_of : Covers → ℕ → List Fragment
leaves_of trees d = or_whole (map.get trees d)

-- how many entries a directory has; what is no directory has none
abbrev pub or_zero : Option ℕ → ℕ
or_zero None = 0
or_zero (Some n) = n

abbrev pub count_of : Counts → ℕ → ℕ
count_of counts d = or_zero (map.get counts d)

-- an entry comes to a directory, and one goes
abbrev pub one_more : Counts → ℕ → Counts
one_more counts d = map.insert counts d (count_of counts d + 1)

abbrev pub one_less : Counts → ℕ → Counts
one_less counts d = map.insert counts d (count_of counts d - 1)

-- the pins with this one of a directory, or with none of it
abbrev pub pinned_at : DirPins → ℕ → Option Rank → DirPins
pinned_at pins d None = map.remove pins d
pinned_at pins d (Some rank) = map.insert pins d rank

-- d is a directory of the table: the root, 1, or one that has a home
abbrev pub is_known : Homes → ℕ → Bool
is_known homes d = (d == 1) || is_some (map.get homes d)

-- a leaf is live: its directory is in the table, and has it
pub record IsLive (homes : Homes) (covers : Covers) (leaf : Leaf) : Type 0 where
  pub known : is_known homes leaf.0.0 ≡ true
  pub stands : HasLeaf (leaves_of covers leaf.0.0) leaf.1

-- a hash falls in a directory that stands: this leaf is the one that it picks, and here the directory itself stands,
-- nowhere if it is the root
pub record IsLeafAt (homes : Homes) (covers : Covers) (d hash : ℕ) (leaf : Fragment)
    (above : Option Home) : Type 0 where
  pub known : is_known homes d ≡ true
  pub pick : IsPick (leaves_of covers d) hash leaf
  pub home : above ≡ map.get homes d

-- d is above x: a chain of one or more parents leads from x to d
pub data IsAncestor (homes : Homes) (d : ℕ) : ℕ → Type 0 where
  -- d is the parent of x
  parent : (x : ℕ) (home : Home) → map.get homes x ≡ Some home → home.parent.0 ≡ d → IsAncestor homes d x
  -- d is above the parent of x
  further : (x : ℕ) (home : Home) → map.get homes x ≡ Some home → IsAncestor homes d home.parent.0 → IsAncestor homes d x

-- so many parents lead from x to the root
abbrev pub Reaches : Homes → ℕ → ℕ → Type 0
Reaches homes zero x = x ≡ 1
Reaches homes (suc n) x = (home : Home) × (map.get homes x ≡ Some home) × Reaches homes n home.parent.0

-- the root has no home, and each directory reaches it by finitely many parents
pub record IsRooted (homes : Homes) : Type 0 where
  pub rootless : map.get homes 1 ≡ None
  pub rooted : (x : ℕ) (home : Home) → map.get homes x ≡ Some home → (n : ℕ) × Reaches homes n x

-- each directory reaches the root, and only a directory has leaves of its own, which are those of a tree
pub record IsTable (homes : Homes) (trees : Covers) : Type 0 where
  pub rooted : IsRooted homes
  pub known : (d : ℕ) (leaves : List Fragment) → map.get trees d ≡ Some leaves → is_known homes d ≡ true
  pub covers : (d : ℕ) (leaves : List Fragment) → map.get trees d ≡ Some leaves → IsTree leaves

-- a directory may come in: it is new, and its parent is there
pub record MayCome (homes : Homes) (d : ℕ) (home : Home) : Type 0 where
  pub other : d ≡ 1 → ⊥
  pub fresh : map.get homes d ≡ None
  pub parent_known : is_known homes home.parent.0 ≡ true

-- a directory may move: it is there, and its new parent too, which is neither the directory itself nor below it
pub record MayMove (homes : Homes) (d : ℕ) (home : Home) : Type 0 where
  pub there : is_some (map.get homes d) ≡ true
  pub parent_known : is_known homes home.parent.0 ≡ true
  pub other : home.parent.0 ≡ d → ⊥
  pub not_below : IsAncestor homes d home.parent.0 → ⊥

-- a directory is no one's parent
abbrev pub IsChildless : Homes → ℕ → Type 0
IsChildless homes d = (x : ℕ) (home : Home) → map.get homes x ≡ Some home → home.parent.0 ≡ d → ⊥

-- a directory may go: it is no one's parent, and not the root
pub record MayGo (homes : Homes) (d : ℕ) : Type 0 where
  pub other : d ≡ 1 → ⊥
  pub childless : IsChildless homes d

-- why leaves of a directory aren't as they are asked for: there is no such directory, or it is there and they are
-- refused so
abbrev pub RefusesLeaves : (Refuses : Refusal → Type 0) → Homes → Ino → Refusal → Type 0
RefusesLeaves Refuses homes dir reason =
    ((reason ≡ NoSuchFrag) × (is_known homes dir.0 ≡ false))
    ⊎ ((is_known homes dir.0 ≡ true) × (reason ≢ NoMemory) × Refuses reason)
