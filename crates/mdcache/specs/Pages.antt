-- A page of a directory, gathered from its leaves one after the other.
use Rattle.std.specs.Prelude.{◌≡◌, ℕ, Bool, ◌||◌, true, List, [], ◌∷◌, Option, length, nat_lt, take}
use Rattle.std.specs.FinMap as map
use Rattle.std.specs.FinMap.Entries.{put}
use Rattle.mds_types.specs.Frag.{Fragment}
use Rattle.objstore.specs.Omap.{key_cmp}
use Rattle.sorted_map.specs.Places.{IsGap, puts}
use Rattle.dirfrag_codec.specs.FragmentObject.{Names}
use Rattle.cached_frag.specs.Rows.{NamedInode, rows_after}

-- what was gathered: the first names so far with their inodes, at most so many, and whether there were more
pub record Gathered : Type 0 where
  pub rows : List NamedInode
  pub more : Bool
  pub most : ℕ

-- it is the page of all these names, which are in order
pub record IsPageOf (whole : List NamedInode) (page : Gathered) : Type 0 where
  pub rows : page.rows ≡ take page.most whole
  pub more : page.more ≡ nat_lt page.most (length whole)

-- one name is taken in
pub record TakesRow (row : NamedInode) (old new : Gathered) : Type 0 where
  pub most : new.most ≡ old.most
  pub rows : new.rows ≡ take old.most (put key_cmp row.0 row.1 old.rows)
  pub more : new.more ≡ (old.more || nat_lt old.most (length (put key_cmp row.0 row.1 old.rows)))

-- the page is full, all its names are less than this one, and there were more
pub record IsBeyond (name : List ℕ) (page : Gathered) : Type 0 where
  pub full : length page.rows ≡ page.most
  pub less : IsGap key_cmp name page.rows page.most
  pub more : page.more ≡ true

-- names greater than `after` of some leaves put to others in order
abbrev pub rows_gathered : (Fragment → Names) → Option (List ℕ) → List NamedInode → List Fragment → List NamedInode
rows_gathered names after rows [] = rows
rows_gathered names after rows (f ∷ leaves) =
    rows_gathered names after (puts key_cmp rows (rows_after after (map.entries (names f)))) leaves
