-- What reads keep of fragments, and which leaves a change leaves alone.
use Rattle.std.specs.Prelude.{◌≡◌, ℕ, true, List}
use Rattle.std.specs.List.{Contains}
use Rattle.mds_types.specs.Frag.{Contains as Holds}
pub use Rattle.mds_types.specs.Leaf.{Leaf}
use Rattle.mds_types.specs.Tree.{Tree, at, is_directory}
use Rattle.fragtree.specs.FragTree.{HasLeaf}
use Rattle.namehash.specs.Rjenkins.{hash_of}
use Rattle.inode_table.specs.Dirs.{Covers, leaves_of}

-- reads and refusals keep the tree, the leaves of each directory, and what the fragments keep beside them
pub record ReadsOnly (old new : Tree) (covers now : Covers) (Follows : Type 0) : Type 0 where
  pub tree : new ≡ old
  pub leaves : now ≡ covers
  pub follows : Follows

-- a leaf that is none of these is unchanged
abbrev pub ChangesOnly : (Leaf → Type 0) → List Leaf → Type 0
ChangesOnly Unchanged leaves = (leaf : Leaf) → (Contains leaves leaf → ⊥) → Unchanged leaf

-- a leaf of a directory that stands
pub record IsStanding (tree : Tree) (covers : Covers) (leaf : Leaf) : Type 0 where
  pub directory : is_directory tree leaf.0.0 ≡ true
  pub among : HasLeaf (leaves_of covers leaf.0.0) leaf.1

-- a leaf that stood stands, and shows what it showed: each name whose hash it contains maps to what it mapped to
pub record ShowsTheSame (old new : Tree) (now : Covers) (leaf : Leaf) : Type 0 where
  pub stands : IsStanding new now leaf
  pub names : (name : List ℕ) → Holds leaf.1 (hash_of name) → at new leaf.0.0 name ≡ at old leaf.0.0 name

-- of the leaves that stood, only these show something else
abbrev pub OthersShowTheSame : (old new : Tree) (covers now : Covers) → List Leaf → Type 0
OthersShowTheSame old new covers now leaves =
    ChangesOnly (λ leaf. IsStanding old covers leaf → ShowsTheSame old new now leaf) leaves
