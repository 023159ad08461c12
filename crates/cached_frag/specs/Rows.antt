-- The names that are left of a fragment's listing.
use Rattle.std.specs.Prelude.{ℕ, List, [], ◌∷◌, filter, Option, Some, None}
use Rattle.std.specs.FinMap.Entries.{by_order}
use Rattle.mds_types.specs.Step.{is_after}
use Rattle.mds_types.specs.declared.inodes.Inode.{Inode}
use Rattle.objstore.specs.Omap.{key_cmp}
use Rattle.cached_frag.specs.declared.marks.Mark.{Mark}

-- a name with its inode, and a dirty name with what became of it
abbrev pub NamedInode : Type 0
NamedInode = List ℕ × Inode

abbrev pub Change : Type 0
Change = List ℕ × Mark

-- the names that were fetched, and the dirty ones, that a listing has not come to
pub record Left : Type 0 where
  pub clean : List NamedInode
  pub dirty : List Change

-- a dirty name is listed if it is present
abbrev pub with_change : List ℕ → Option Inode → List NamedInode → List NamedInode
with_change name (Some inode) rows = (name, inode) ∷ rows
with_change name None rows = rows

abbrev pub changed_rows : List Change → List NamedInode
changed_rows [] = []
changed_rows (m ∷ ms) = with_change m.0 m.1.inode (changed_rows ms)

-- a row before, at or behind the dirty names that are left
abbrev pub merged_one : NamedInode → (List Change → List NamedInode) → List Change → List NamedInode
merged_one row rest [] = row ∷ rest []
merged_one row rest (m ∷ ms) =
    by_order (key_cmp row.0 m.0) (row ∷ rest (m ∷ ms)) (with_change m.0 m.1.inode (rest ms))
    (with_change m.0 m.1.inode (merged_one row rest ms))

-- the rows that are left in the order of their names: at each name what became of it, if it is dirty
abbrev pub merged : List NamedInode → List Change → List NamedInode
merged [] ms = changed_rows ms
merged (row ∷ rows) ms = merged_one row (merged rows) ms

abbrev pub rows_left : Left → List NamedInode
rows_left left = merged left.clean left.dirty

-- those whose names are greater than `after`; all, if none is given
abbrev pub rows_after : Option (List ℕ) → List NamedInode → List NamedInode
rows_after after rows = filter (λ row. is_after after row.0) rows

-- what is left of a list whose first item was taken
abbrev pub with_first : {A : Type 0} → Option A → List A → List A
with_first None rest = []
with_first (Some x) rest = x ∷ rest

abbrev pub head_of : {A : Type 0} → List A → Option A
head_of [] = None
head_of (x ∷ rest) = Some x
