-- The fragments of words that stand side by side. Only this crate's own contracts use these words.
use Rattle.std.specs.Prelude.{◌≡◌, ℕ, ◌+◌, ◌^◌, List, ◌++◌, Option, Some, None}
use Rattle.std.specs.Global.{Vec}
use Rattle.std.specs.List.{flat_map, AllByRecursion}
use Rattle.mds_types.specs.Frag.{Fragment, IsFragment, span, word_of}
use Rattle.fragtree.specs.FragTree.{IsTree, Tiles}
use Rattle.dirfrag_codec.specs.TreeObject.{leaf_bytes}

-- the fragment of a word; none if there is none
abbrev pub IsFragmentOf : ℕ → Option Fragment → Type 0
IsFragmentOf word (Some f) = IsFragment f × (word_of f ≡ word)
IsFragmentOf word None = (f : Fragment) → IsFragment f → word_of f ≡ word → ⊥

-- the fragments whose words the bytes are; none if there are none
abbrev pub AreLeavesOf : List ℕ → Option (Vec Fragment) → Type 0
AreLeavesOf words (Some leaves) = AllByRecursion IsFragment leaves.items × (words ≡ flat_map leaf_bytes leaves.items)
AreLeavesOf words None =
    (leaves : List Fragment) → AllByRecursion IsFragment leaves → words ≡ flat_map leaf_bytes leaves → ⊥

-- the bytes begin with the word of a fragment that begins at low, and go on so
pub record BeginsWith (bytes : List ℕ) (low : ℕ) (leaf : Fragment) (after : List ℕ) : Type 0 where
  pub fragment : IsFragment leaf
  pub begins : leaf.value ≡ low
  pub parts : bytes ≡ leaf_bytes leaf ++ after

-- the fragment whose word they begin with ends at high
abbrev pub EndsAt : List ℕ → ℕ → ℕ → List ℕ → Type 0
EndsAt bytes low high after = (leaf : Fragment) × BeginsWith bytes low leaf after × (high ≡ leaf.value + span leaf.bits)

-- the bytes begin with the word of no such fragment
abbrev pub BeginsWithNone : List ℕ → ℕ → Type 0
BeginsWithNone bytes low = (leaf : Fragment) (after : List ℕ) → BeginsWith bytes low leaf after → ⊥

-- the bytes are the words of fragments that tile the hashes from low on
abbrev pub AreTilesFrom : ℕ → List ℕ → Type 0
AreTilesFrom low words = (leaves : List Fragment) × Tiles low (2 ^ 24) leaves × (words ≡ flat_map leaf_bytes leaves)

-- the bytes are the words of a tree's leaves
abbrev pub AreTreeOf : List ℕ → Type 0
AreTreeOf words = (leaves : List Fragment) × IsTree leaves × (words ≡ flat_map leaf_bytes leaves)
