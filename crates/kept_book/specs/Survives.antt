-- What a crash leaves, and what a store finds after one.
use Rattle.std.specs.Prelude.{◌≡◌}
use Rattle.mds_types.specs.Tree.{Tree}
use Rattle.objstore.specs.Objects.{Objects}
use Rattle.cold_store.specs.ColdTree.{IsColdTree}
use Rattle.sqlite_trees.specs.Tree.{Trees}
use Rattle.sqlite_trees.specs.View.{IsClean, View}
use Rattle.object_tables.specs.Noted.{none_noted}
use Rattle.object_tables.specs.Spelled.{SpellsObjects}
use Rattle.kept_store.specs.Kept.{RecoversObjects, KeptObjects}

-- whatever a crash leaves spells these objects and no others
abbrev pub Survives : (Trees → Type 0) → Objects → Type 0
Survives recovers objects = (db : Trees) → recovers db → SpellsObjects db objects × ((others : Objects) → SpellsObjects db others → others ≡ objects)

-- tables from which a mount shows this tree: they spell objects whose cold tree it is
pub record MountShows (db : Trees) (tree : Tree) : Type 0 where
  pub objects : Objects
  pub spelled : SpellsObjects db objects
  pub cold : IsColdTree objects tree

-- a tree is on disk: whatever a crash leaves, a mount shows it and no other
pub record IsOnDisk (recovers : Trees → Type 0) (tree : Tree) : Type 0 where
  pub mounts : (db : Trees) → recovers db → MountShows db tree
  pub alone : (db : Trees) → recovers db → (other : Tree) → MountShows db other → other ≡ tree

-- a tree is the cold tree of the objects found after a crash. If the disk was honest, an outcome of the crash spells
-- these objects. If nothing was noted, they are the objects that the store had, and the tree is theirs, which the last
-- flush left
pub record ComesBack {T : Type 0} (view : T → View) (recovers : T → Trees → Type 0) (kept : KeptObjects T) (tree : Tree) : Type 0 where
  pub now : KeptObjects T
  pub all : now.noted ≡ none_noted
  pub found : IsClean (view now.tables) → RecoversObjects (recovers kept.tables) now.objects
  pub back : IsClean (view now.tables) → kept.noted ≡ none_noted → now.objects ≡ kept.objects
  pub cold : IsColdTree now.objects tree
  pub same : IsClean (view now.tables) → kept.noted ≡ none_noted → (was : Tree) → IsColdTree kept.objects was → tree ≡ was
