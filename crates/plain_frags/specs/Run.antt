-- The names of one directory among dentries in order.
use Rattle.std.specs.Prelude.{ℕ, cond, ◌==◌, List, [], ◌∷◌}
use Rattle.mds_types.specs.declared.dentries.Dentry.{Dentry}
use Rattle.mds_types.specs.declared.inodes.Inode.{Inode}

-- the names and inodes of the directory at the front of the rows
abbrev pub run : ℕ → List (Dentry × Inode) → List (List ℕ × Inode)
run d [] = []
run d (e ∷ es) = cond (e.0.dir.0 == d) ((e.0.name, e.1) ∷ run d es) []
