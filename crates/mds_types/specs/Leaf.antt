-- Leaves: fragments of directories that aren't split.
use Rattle.std.specs.Prelude.{Bool, ◌&&◌, ◌==◌}
use Rattle.std.specs.declared.cmp.Ordering.{Ordering}
use Rattle.std.specs.Ordering.{nat_cmp, ordering_then}
use Rattle.mds_types.specs.declared.ids.Ino.{Ino}
use Rattle.mds_types.specs.declared.dirfrags.Dirfrag.{Dirfrag}
use Rattle.mds_types.specs.Frag.{Fragment, frag_cmp}

-- a leaf: a directory and a fragment of it
abbrev pub Leaf : Type 0
Leaf = Ino × Fragment

-- leaves are ordered by directory, and then as fragments
abbrev pub leaf_cmp : Leaf → Leaf → Ordering
leaf_cmp a b = ordering_then (nat_cmp a.0.0 b.0.0) (frag_cmp a.1 b.1)

-- whether two leaves are one
abbrev pub leaf_is : Leaf → Leaf → Bool
leaf_is a b = (a.0.0 == b.0.0) && ((a.1.value == b.1.value) && (a.1.bits == b.1.bits))

-- the leaf of a dirfrag
abbrev pub leaf_of : Dirfrag → Leaf
leaf_of at = (at.dir, at.frag)
