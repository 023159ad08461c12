-- The header of a fragment tree's object, which has the leaves of one directory (this project's own profile).
use Rattle.std.specs.Prelude.{◌≡◌, ℕ, ◌*◌, ◌≤◌, List, ◌∷◌, ◌++◌, length, codes}
use Rattle.std.specs.List.{flat_map}
use Rattle.byteorder.specs.Endian.{little_bytes}
use Rattle.mds_types.specs.Frag.{Fragment, word_of}
use Rattle.fragtree.specs.FragTree.{IsTree}

-- a leaf is its word of 32 bits
abbrev pub leaf_bytes : Fragment → List ℕ
leaf_bytes leaf = little_bytes 4 (word_of leaf)

-- the letter T, the version of the format, the number of leaves, and each leaf
abbrev pub tree_bytes : List Fragment → List ℕ
tree_bytes leaves = codes "T" ++ 1 ∷ (little_bytes 2 (length leaves) ++ flat_map leaf_bytes leaves)

-- the bytes state 2 leaves or more, and have a word for each, whatever the words are
pub record StatesLeaves (bytes : List ℕ) : Type 0 where
  pub count : ℕ
  pub words : List ℕ
  pub several : 2 ≤ count
  pub whole : length words ≡ 4 * count
  pub spelled : bytes ≡ codes "T" ++ 1 ∷ (little_bytes 2 count ++ words)

-- the grammar of trees: 2 to 4096 leaves by ascending value, which cover every 24-bit hash once (a tree of one leaf has
-- no object)
pub record SpellsTree (bytes : List ℕ) (leaves : List Fragment) : Type 0 where
  pub tree : IsTree leaves
  pub several : 2 ≤ length leaves
  pub spelled : bytes ≡ tree_bytes leaves
