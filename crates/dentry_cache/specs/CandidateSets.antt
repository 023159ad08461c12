-- How a cache keeps its candidates. Only this crate's own contracts use these words.
use Rattle.std.specs.Prelude.{◌≡◌, ℕ, zero, suc, ◌+◌, ◌≤◌, Bool, true, false, ◌&&◌, nat_lt, nat_le, List, [], ◌∷◌, length, Result, MatchResult, Option, Some, None, vec_capacity}
use Rattle.std.specs.List.{list_any}
use Rattle.std.specs.declared.cmp.Ordering.TheVariants.{Less}
use Rattle.mds_types.specs.Frag.{IsFragment}
use Rattle.mds_types.specs.Leaf.{Leaf, leaf_cmp, leaf_is}
use Rattle.dentry_cache.specs.declared.candidates.Candidates.{Candidates}
use Rattle.dentry_cache.specs.Cache.{Places, cached}
use Rattle.dentry_cache.specs.Candidates.{Sizes, child, size_in}

-- ---- leaves in their order

-- whether a leaf is one of these
abbrev pub is_leaf_in : Leaf → List Leaf → Bool
is_leaf_in leaf leaves = list_any (leaf_is leaf) leaves

-- a leaf is less than each of these
abbrev pub IsBelow : Leaf → List Leaf → Type 0
IsBelow leaf [] = Unit {0}
IsBelow leaf (x ∷ xs) = (leaf_cmp leaf x ≡ Less) × IsBelow leaf xs

-- each is less than those behind it
abbrev pub Rise : List Leaf → Type 0
Rise [] = Unit {0}
Rise (x ∷ xs) = IsBelow x xs × Rise xs

-- a leaf would go to this place: those before it are less, and those from it on are greater
abbrev pub IsLeafGap : Leaf → List Leaf → ℕ → Type 0
IsLeafGap leaf [] zero = Unit {0}
IsLeafGap leaf [] (suc i) = ⊥
IsLeafGap leaf (x ∷ xs) zero = (leaf_cmp leaf x ≡ Less) × IsBelow leaf xs
IsLeafGap leaf (x ∷ xs) (suc i) = (leaf_cmp x leaf ≡ Less) × IsLeafGap leaf xs i

-- it stands at this place
abbrev pub StandsAt : Leaf → List Leaf → ℕ → Type 0
StandsAt leaf [] i = ⊥
StandsAt leaf (x ∷ xs) zero = x ≡ leaf
StandsAt leaf (x ∷ xs) (suc i) = StandsAt leaf xs i

-- the place of a leaf, or where it would go
abbrev pub IsLeafSpot : Leaf → List Leaf → Result ℕ ℕ → Type 0
IsLeafSpot leaf leaves r = MatchResult r (StandsAt leaf leaves) (IsLeafGap leaf leaves)

-- from this place on each leaf is behind this one, and none before it is
abbrev pub IsPlaceBehind : Leaf → List Leaf → ℕ → Type 0
IsPlaceBehind leaf xs zero = IsBelow leaf xs
IsPlaceBehind leaf [] (suc i) = Unit {0}
IsPlaceBehind leaf (x ∷ xs) (suc i) = (leaf_cmp leaf x ≡ Less → ⊥) × IsPlaceBehind leaf xs i

-- ---- sizes

abbrev pub sizes_of : Places → Sizes
sizes_of places leaf = size_in (cached places leaf)

-- more than 10000 entries, and bits that allow a split by 3
abbrev pub is_large : Leaf → Option ℕ → Bool
is_large leaf (Some n) = nat_le leaf.1.bits 21 && nat_lt 10000 n
is_large leaf None = false

-- fewer than 50 entries
abbrev pub is_few : Option ℕ → Bool
is_few (Some n) = nat_lt n 50
is_few None = false

abbrev pub both : Option ℕ → Option ℕ → Option ℕ
both (Some n) (Some m) = Some (n + m)
both (Some n) None = None
both None m = None

-- how many entries the first so many of eight children have together, if they are all cached
abbrev pub together : Sizes → Leaf → ℕ → Option ℕ
together sizes whole zero = Some 0
together sizes whole (suc n) = both (sizes (child whole n)) (together sizes whole n)

abbrev pub are_few : Sizes → Leaf → Bool
are_few sizes whole = is_few (together sizes whole 8)

-- ---- the sets

-- the leaves that are large, and the fragments whose eight children are small
pub record AreSets (sizes : Sizes) (large small : List Leaf) : Type 0 where
  pub large_rise : Rise large
  pub small_rise : Rise small
  pub large_are : (leaf : Leaf) → is_leaf_in leaf large ≡ is_large leaf (sizes leaf)
  pub small_are : (whole : Leaf) → IsFragment whole.1 → is_leaf_in whole small ≡ are_few sizes whole
  pub fragments : (whole : Leaf) → is_leaf_in whole small ≡ true → IsFragment whole.1

abbrev pub AreCandidates : Sizes → Candidates → Type 0
AreCandidates sizes c = AreSets sizes c.large.leaves.items c.small.leaves.items

-- so many leaves fit in each
pub record HasRoomFor (count : ℕ) (c : Candidates) : Type 0 where
  pub large : count ≤ vec_capacity c.large.leaves
  pub small : count ≤ vec_capacity c.small.leaves

-- those of a cache, with room for as many leaves as it has places that are taken: more there can't be
pub record AreTold (places : Places) (c : Candidates) : Type 0 where
  pub sets : AreCandidates (sizes_of places) c
  pub room : HasRoomFor (length places) c

-- one leaf's fragment came, went, or has another number of entries
pub record IsResized (leaf : Leaf) (was now : Option ℕ) (old new : Sizes) : Type 0 where
  pub before : old leaf ≡ was
  pub after : new leaf ≡ now
  pub others : (q : Leaf) → leaf_is leaf q ≡ false → new q ≡ old q

-- so it was since these were the candidates of a cache, which has these places now
pub record MayResize (leaf : Leaf) (was now : Option ℕ) (places : Places) (c : Candidates) : Type 0 where
  pub sizes : Sizes
  pub sets : AreCandidates sizes c
  pub resized : IsResized leaf was now sizes (sizes_of places)
  pub room : HasRoomFor (length places) c
