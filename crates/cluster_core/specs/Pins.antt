-- The pins of directories, CephFS's `ceph.dir.pin`: the rank at which an administrator wants a subtree.
use Rattle.std.specs.Prelude.{◌≡◌, ℕ, Some, None}
use Rattle.std.specs.FinMap as map
use Rattle.mds_types.specs.declared.ids.Rank.{Rank}
use Rattle.inode_table.specs.declared.dirs.Home.{Home}
use Rattle.inode_table.specs.Dirs.{DirPins, Homes}

-- the effective pin of a directory: that of the closest directory with a pin, itself or above
pub data HasPin (pins : DirPins) (homes : Homes) : ℕ → Rank → Type 0 where
  own : (d : ℕ) (rank : Rank) → map.get pins d ≡ Some rank → HasPin pins homes d rank
  inherited : (d : ℕ) (home : Home) (rank : Rank) → map.get pins d ≡ None → map.get homes d ≡ Some home
      → HasPin pins homes home.parent.0 rank → HasPin pins homes d rank
