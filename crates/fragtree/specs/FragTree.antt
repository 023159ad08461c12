-- The leaves of one directory, CephFS's `fragtree_t`: what they are, which leaf a hash picks, and what a split and a
-- merge make of them.
use Rattle.std.specs.Prelude.{◌≡◌, ◌≢◌, ◌↔◌, ◌⊎◌, ℕ, ◌+◌, ◌-◌, ◌/◌, ◌^◌, ◌<◌, ◌≤◌, Bool, false, ◌&&◌, nat_lt, ◌==◌, List, [], ◌∷◌, length, filter, slice_index_or}
use Rattle.std.specs.List as list
use Rattle.mds_types.specs.Frag.{Fragment, IsFragment, Contains, IsCover, child_of, root_fragment, span}
use Rattle.mds_types.specs.declared.refusals.Refusal.{Refusal}
use Rattle.mds_types.specs.declared.refusals.Refusal.TheVariants.{NoMemory, NoSuchFrag, BadSplit, TooManyFrags}

-- fragments that tile the hashes from low up to high: the first begins at low, and each other one where the one before
-- it ends
abbrev pub Tiles : ℕ → ℕ → List Fragment → Type 0
Tiles low high [] = low ≡ high
Tiles low high (f ∷ fs) = IsFragment f × (f.value ≡ low) × Tiles (low + span f.bits) high fs

-- the leaves of a directory, by ascending value: they tile the 24-bit hashes (CephFS's `fragtree_t`), and are at most
-- 4096 (this project's own profile)
pub record IsTree (leaves : List Fragment) : Type 0 where
  pub tiles : Tiles 0 (2 ^ 24) leaves
  pub few : length leaves ≤ 4096

-- f is one of the leaves
abbrev pub HasLeaf : List Fragment → Fragment → Type 0
HasLeaf leaves f = list.Contains leaves f

-- the leaves of a directory in the words of covers: fragments by strictly ascending value, which cover each 24-bit hash
-- once, at most 4096
pub record IsAscendingCover (leaves : List Fragment) : Type 0 where
  pub fragments : (leaf : Fragment) → HasLeaf leaves leaf → IsFragment leaf
  pub ascending : (i j : ℕ) → i < j → j < length leaves
      → (slice_index_or leaves i root_fragment).value < (slice_index_or leaves j root_fragment).value
  pub cover : IsCover leaves
  pub few : length leaves ≤ 4096

-- the leaf that a hash picks: the one leaf that contains it
pub record IsPick (leaves : List Fragment) (hash : ℕ) (leaf : Fragment) : Type 0 where
  pub stands : HasLeaf leaves leaf
  pub contains : Contains leaf hash
  pub alone : (other : Fragment) → HasLeaf leaves other → Contains other hash → other ≡ leaf

-- a fragment can be split by 1 to 8 bits (this project's own profile), and to at most 24 in all
pub record FitsSplit (f : Fragment) (nb : ℕ) : Type 0 where
  pub some : 1 ≤ nb
  pub at_once : nb ≤ 8
  pub in_all : f.bits + nb ≤ 24

-- f can be split by nb bits: it is a leaf, the bits fit, and there will be at most 4096 leaves
pub record CanSplit (leaves : List Fragment) (f : Fragment) (nb : ℕ) : Type 0 where
  pub stands : HasLeaf leaves f
  pub fits : FitsSplit f nb
  pub few : length leaves - 1 + 2 ^ nb ≤ 4096

-- why a split is refused: the first of these checks that holds; want of memory only where none does
abbrev pub RefusesSplit : List Fragment → Fragment → ℕ → Refusal → Type 0
RefusesSplit leaves f nb NoSuchFrag = HasLeaf leaves f → ⊥
RefusesSplit leaves f nb BadSplit = HasLeaf leaves f × (FitsSplit f nb → ⊥)
RefusesSplit leaves f nb TooManyFrags = HasLeaf leaves f × FitsSplit f nb × (4096 < length leaves - 1 + 2 ^ nb)
RefusesSplit leaves f nb NoMemory = CanSplit leaves f nb
RefusesSplit leaves f nb _ = ⊥

-- g is one of the 2^nb children of f by nb bits
abbrev pub IsChild : Fragment → ℕ → Fragment → Type 0
IsChild f nb g = (i : ℕ) × (i < 2 ^ nb) × (g ≡ child_of f i nb)

-- a split of f by nb bits: the new leaves are the old ones but f, and the children of f
pub record IsSplit (old new : List Fragment) (f : Fragment) (nb : ℕ) : Type 0 where
  pub leaves : (g : Fragment) → HasLeaf new g ↔ ((HasLeaf old g × (g ≢ f)) ⊎ IsChild f nb g)
  pub count : length new ≡ length old - 1 + 2 ^ nb

-- whether g lies properly inside f: it fixes more bits, and begins as f does
abbrev pub lies_inside : Fragment → Fragment → Bool
lies_inside f g = nat_lt f.bits g.bits && (g.value / span f.bits == f.value / span f.bits)

-- the leaves properly inside f
abbrev pub leaves_inside : Fragment → List Fragment → List Fragment
leaves_inside f leaves = filter (lies_inside f) leaves

-- leaves can be merged at f: some lie properly inside it, and at most 256 (this project's own profile)
pub record CanMerge (leaves : List Fragment) (f : Fragment) : Type 0 where
  pub some : 1 ≤ length (leaves_inside f leaves)
  pub few : length (leaves_inside f leaves) ≤ 256

-- why a merge is refused: nothing lies properly inside f, or too much; want of memory only where neither
abbrev pub RefusesMerge : List Fragment → Fragment → Refusal → Type 0
RefusesMerge leaves f NoSuchFrag = leaves_inside f leaves ≡ []
RefusesMerge leaves f TooManyFrags = 256 < length (leaves_inside f leaves)
RefusesMerge leaves f NoMemory = CanMerge leaves f
RefusesMerge leaves f _ = ⊥

-- a merge at f: the new leaves are f, and the old ones that don't lie properly inside it
pub record IsMerge (old new : List Fragment) (f : Fragment) : Type 0 where
  pub leaves : (g : Fragment) → HasLeaf new g ↔ ((HasLeaf old g × (lies_inside f g ≡ false)) ⊎ (g ≡ f))
  pub count : length new + length (leaves_inside f old) ≡ length old + 1
