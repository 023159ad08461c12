-- What each step makes of holders, authorities and frozen leaves.
use Rattle.std.specs.Prelude.{◌↔◌, ◌⊎◌}
use Rattle.mds_types.specs.declared.ids.Rank.{Rank}
use Rattle.inode_table.specs.Dirs.{Homes, Covers}
use Rattle.mds_types.specs.Leaf.{Leaf}
use Rattle.subtree_map.specs.Authority.{Roots, HasAuthority, NearestRoot}
use Rattle.export_steps.specs.Standing.{Standing}
use Rattle.export_steps.specs.Holder.{HasHolder, IsFrozen}

-- every leaf has the holder that it had
abbrev pub KeepHolders : Standing → Standing → Roots → Roots → Homes → Covers → Type 0
KeepHolders old new was now homes covers =
    (leaf : Leaf) (rank : Rank) → HasHolder old was homes covers leaf rank → HasHolder new now homes covers leaf rank

-- every leaf has the authority that it had
abbrev pub KeepAuthorities : Roots → Roots → Homes → Covers → Type 0
KeepAuthorities was now homes covers =
    (leaf : Leaf) (rank : Rank) → HasAuthority was homes covers leaf rank → HasAuthority now homes covers leaf rank

-- the leaves of the region of a root are frozen now, and of the others those that were
abbrev pub FreezesRegion : Standing → Standing → Roots → Roots → Homes → Covers → Leaf → Type 0
FreezesRegion old new was now homes covers root =
    (leaf : Leaf) → IsFrozen new now homes covers leaf ↔ (NearestRoot now homes covers leaf root
    ⊎ IsFrozen old was homes covers leaf)

-- the leaves of the region of a root are thawed, and of the others those are frozen that were
abbrev pub ThawsRegion : Standing → Standing → Roots → Roots → Homes → Covers → Leaf → Type 0
ThawsRegion old new was now homes covers root =
    (leaf : Leaf) → IsFrozen new now homes covers leaf ↔ ((NearestRoot was homes covers leaf root → ⊥)
    × IsFrozen old was homes covers leaf)

-- the leaves that were frozen are, and no others
abbrev pub KeepFrozen : Standing → Standing → Roots → Homes → Covers → Type 0
KeepFrozen old new roots homes covers =
    (leaf : Leaf) → IsFrozen new roots homes covers leaf ↔ IsFrozen old roots homes covers leaf

-- Start, Prep, Send: every leaf keeps its holder, and is frozen exactly if it was
pub record StepsSoundly (old new : Standing) (roots : Roots) (homes : Homes) (covers : Covers) : Type 0 where
  pub holders : KeepHolders old new roots roots homes covers
  pub frozen : KeepFrozen old new roots homes covers

-- Freeze, of a leaf whose authority is the exporter and which isn't frozen: its region freezes, and every leaf keeps
-- its holder and its authority
pub record FreezesSoundly (old new : Standing) (was now : Roots) (homes : Homes) (covers : Covers)
    (root : Leaf) : Type 0 where
  pub holders : KeepHolders old new was now homes covers
  pub authorities : KeepAuthorities was now homes covers
  pub frozen : FreezesRegion old new was now homes covers root

-- Import: the importer holds the region, and every other leaf keeps its holder
pub record HandsOver (old new : Standing) (roots : Roots) (homes : Homes) (covers : Covers) (root : Leaf)
    (importer : Rank) : Type 0 where
  pub region : (leaf : Leaf) → NearestRoot roots homes covers leaf root → HasHolder new roots homes covers leaf importer
  pub others : (leaf : Leaf) (rank : Rank) → (NearestRoot roots homes covers leaf root → ⊥)
      → HasHolder old roots homes covers leaf rank → HasHolder new roots homes covers leaf rank
  pub frozen : KeepFrozen old new roots homes covers

-- Finish: the importer is the authority of the region, and every other leaf keeps its own; the region thaws, and every
-- leaf keeps its holder
pub record FinishesSoundly (old new : Standing) (was now : Roots) (homes : Homes) (covers : Covers) (root : Leaf)
    (importer : Rank) : Type 0 where
  pub region : (leaf : Leaf) → NearestRoot was homes covers leaf root → HasAuthority now homes covers leaf importer
  pub others : (leaf : Leaf) (rank : Rank) → (NearestRoot was homes covers leaf root → ⊥)
      → HasAuthority was homes covers leaf rank → HasAuthority now homes covers leaf rank
  pub holders : KeepHolders old new was now homes covers
  pub frozen : ThawsRegion old new was now homes covers root

-- Cancel: the region thaws, and every leaf keeps its holder
pub record CancelsSoundly (old new : Standing) (roots : Roots) (homes : Homes) (covers : Covers)
    (root : Leaf) : Type 0 where
  pub holders : KeepHolders old new roots roots homes covers
  pub frozen : ThawsRegion old new roots roots homes covers root
