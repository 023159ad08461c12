-- Dirty names: the names of a fragment that changed since its last commit, each with what became of it.
use Rattle.std.specs.Prelude.{◌≡◌, ℕ, List, [], ◌∷◌, Option, Some, None, IfSome}
use Rattle.std.specs.FinMap as map
use Rattle.mds_types.specs.Name.{IsName}
use Rattle.mds_types.specs.declared.inodes.Inode.{Inode}
use Rattle.objstore.specs.Omap.{key_cmp}
use Rattle.dirfrag_codec.specs.EntryRecord.{HasRecord}
use Rattle.dirfrag_codec.specs.FragmentObject.{Names}
use Rattle.cached_frag.specs.declared.marks.Mark.{Mark}

-- dirty names, in the order of the names
abbrev pub Marks : Type 0
Marks = map.FinMap key_cmp Mark

-- what became of a name: it is present, with an inode that a record allows, or was removed
pub record IsDirtyName (name : List ℕ) (mark : Mark) : Type 0 where
  pub named : IsName name
  pub recorded : IfSome mark.inode HasRecord

abbrev pub AreDirtyNames : Marks → Type 0
AreDirtyNames marks = (name : List ℕ) (mark : Mark) → map.get marks name ≡ Some mark → IsDirtyName name mark

-- a dirty name is what it became, any other what it was
abbrev pub inode_or : Option Mark → Option Inode → Option Inode
inode_or (Some mark) below = mark.inode
inode_or None below = below

-- names once one of them was given an inode, or removed
abbrev pub with_changed_name : Names → List ℕ → Option Inode → Names
with_changed_name names name (Some inode) = map.insert names name inode
with_changed_name names name None = map.remove names name

abbrev pub with_marks : Names → List (List ℕ × Mark) → Names
with_marks names [] = names
with_marks names (e ∷ es) = with_marks (with_changed_name names e.0 e.1.inode) es

-- names with the dirty ones replaced or gone
unfoldable pub patched : Names → Marks → Names
patched names marks = with_marks names (map.entries marks)
