-- What names make of a fragment that takes them in.
use Rattle.std.specs.Prelude.{◌≡◌, ℕ, ◌+◌, List, Option, Some, None}
use Rattle.std.specs.FinMap as map
use Rattle.mds_types.specs.declared.inodes.Inode.{Inode}
use Rattle.dirfrag_codec.specs.FragmentObject.{Names}
use Rattle.cached_frag.specs.declared.marks.Mark.{Mark}
use Rattle.cached_frag.specs.Cached.{Cached, shown_names}

-- a name that came in is dirty at this version, with its inode; any other is what it was
abbrev pub marked_as : ℕ → Option Inode → Option Mark → Option Mark
marked_as version (Some inode) was = Some (record { version = version; inode = Some inode })
marked_as version None was = was

-- it is shown with its inode
abbrev pub shown_as : Option Inode → Option Inode → Option Inode
shown_as (Some inode) was = Some inode
shown_as None was = was

-- a fragment has taken these names in, at this version
pub record Joins (f now : Cached) (names : Names) (version : ℕ) : Type 0 where
  pub dirty : (name : List ℕ) → map.get now.dirty name ≡ marked_as version (map.get names name) (map.get f.dirty name)
  pub shown : (name : List ℕ) → map.get (shown_names now) name ≡ shown_as (map.get names name) (map.get (shown_names f) name)
  pub room : now.room + map.len names ≡ f.room
  pub same : now ≡ record {
    base =
        f.base;
    generation = f.generation;
    clean = f.clean;
    dirty = now.dirty;
    room = now.room;
    places = f.places;
  }

-- a fragment has taken these names in, at this version, whatever room it has now
pub record TakesIn (f now : Cached) (names : Names) (version : ℕ) : Type 0 where
  pub dirty : (name : List ℕ) → map.get now.dirty name ≡ marked_as version (map.get names name) (map.get f.dirty name)
  pub shown : (name : List ℕ) → map.get (shown_names now) name ≡ shown_as (map.get names name) (map.get (shown_names f) name)
  pub same : now ≡ record {
    base =
        f.base;
    generation = f.generation;
    clean = f.clean;
    dirty = now.dirty;
    room = now.room;
    places = f.places;
  }
