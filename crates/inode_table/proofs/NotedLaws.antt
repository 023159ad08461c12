-- The counts and the pins stay the tree's at each change of it.
use Rattle.std.proofs.Common.{◌≡◌, is_some, Option, Some, None, refl, sym, ap, ◌∙◌}
use Rattle.std.specs.FinMap as map
use Rattle.std.proofs.lemmas.Bool.{cond_both}
use Rattle.std.specs.FinMap.{get-empty}
use Rattle.mds_types.specs.declared.dentries.Dentry.{Dentry}
use Rattle.mds_types.specs.declared.inodes.Inode.{Inode}
use Rattle.mds_types.specs.Tree.{NothingIn, Tree, dentry_cmp, is_dir_kind}
use Rattle.mds_types.specs.Step.{IsMove, with_moved}
use Rattle.mds_types.proofs.EntryLaws.{stands_after_removal}
use Rattle.inode_table.specs.Dirs.{Counts, DirPins, Homes, one_less, one_more}
use Rattle.inode_table.specs.TreeChanges.{MayAdd, MaySet, MayRemove}
use Rattle.inode_table.specs.TreeTable.{HoldsCounts, IsCounted, IsTabled, counts_moved, with_count, with_dir_pin, without_row}
use Rattle.inode_table.proofs.CountedLaws.{comes, empty_counted, goes, moved_counts, new_is_empty, set, with_none, without_none}
use Rattle.inode_table.proofs.HeldRows.{one_inode}
use Rattle.inode_table.proofs.MoveLaws.{replaced_empty}
use Rattle.inode_table.proofs.PinLaws.{added_pins, empty_pins, moved_pins, removed_pins, set_pins}
use Rattle.inode_table.proofs.TableLaws.{nothing_in}

-- the counts without that of a directory in which nothing is
left_counted : (tree : Tree) (counts : Counts) (gone : Option Inode) → HoldsCounts tree counts → ((inode : Inode) → gone ≡ Some inode → NothingIn tree inode.ino.0) → HoldsCounts tree (without_row counts gone)
left_counted tree counts None holds empty = holds
left_counted tree counts (Some inode) holds empty =
    cond_both (is_dir_kind inode.kind) (map.remove counts inode.ino.0) counts (HoldsCounts tree) (λ kinded. without_none tree counts holds inode.ino.0 (empty inode refl)) (λ kinded. holds)

-- the counts with that of a directory in which nothing is
came_counted : (tree : Tree) (counts : Counts) (inode : Inode) → HoldsCounts tree counts → NothingIn tree inode.ino.0 → HoldsCounts tree (with_count counts inode)
came_counted tree counts inode holds empty =
    cond_both (is_dir_kind inode.kind) (map.insert counts inode.ino.0 0) counts (HoldsCounts tree) (λ kinded. with_none tree counts holds inode.ino.0 empty) (λ kinded. holds)

-- the root alone
pub none_counted : IsCounted map.empty (map.insert map.empty 1 0) map.empty
none_counted = record { each = empty_counted; pinned = empty_pins }

-- a directory comes to a table before any entry is counted
pub none_with : (counts : Counts) (pins : DirPins) (inode : Inode) → IsCounted map.empty counts pins → IsCounted map.empty (with_count counts inode) pins
none_with counts pins inode none = record {
  each = came_counted map.empty counts inode none.each (λ q x stands same. let clash : None ≡ Some x = sym (get-empty dentry_cmp q) ∙ stands in cc);
  pinned = none.pinned;
}

module _ (tree : Tree) (homes : Homes) (tabled : IsTabled tree homes) (counts : Counts) (pins : DirPins) (counted : IsCounted tree counts pins) where
  -- a new inode comes,
  pub added_counted : (dentry : Dentry) (inode : Inode) → MayAdd tree dentry inode → IsCounted (map.insert tree dentry inode) (with_count (one_more counts dentry.dir.0) inode) pins
  added_counted dentry inode may = record {
    each = came_counted (map.insert tree dentry inode) (one_more counts dentry.dir.0) inode (comes tree counts counted.each dentry inode may.free) (new_is_empty tree dentry inode tabled.whole may);
    pinned = added_pins tree pins dentry inode tabled.whole counted.pinned may;
  }

  -- one is altered,
  pub set_counted : (dentry : Dentry) (inode : Inode) → MaySet tree dentry inode → IsCounted (map.insert tree dentry inode) counts (with_dir_pin pins inode)
  set_counted dentry inode may = record { each = set tree counts counted.each dentry may.before inode may.stands; pinned = set_pins tree pins dentry inode tabled.whole counted.pinned may }

  -- an entry goes,
  pub removed_counted : (dentry : Dentry) (found : Option Inode) → map.get tree dentry ≡ found → MayRemove tree dentry → IsCounted (map.remove tree dentry) (without_row (one_less counts dentry.dir.0) found) (without_row pins found)
  removed_counted dentry found at_dentry may = record {
    each = left_counted (map.remove tree dentry) (one_less counts dentry.dir.0) found (goes tree counts counted.each dentry may.inode may.stands) empty;
    pinned = removed_pins tree pins dentry found at_dentry tabled.whole counted.pinned may;
  }
    where
      empty : (inode : Inode) → found ≡ Some inode → NothingIn (map.remove tree dentry) inode.ino.0
      empty inode is q x stands same =
          let alike = one_inode tree dentry dentry may.inode inode refl may.stands (at_dentry ∙ is) in
          nothing_in tree dentry may.inode tabled.whole may.stands may.empty q x (stands_after_removal tree dentry q x stands).1 (same ∙ ap (λ (i : Inode). i.ino.0) (sym alike))

  -- or moves
  pub moved_counted : (from to : Dentry) (inode : Inode) → IsMove tree from to inode
      → IsCounted (with_moved tree from to inode) (without_row (counts_moved counts from.dir.0 to.dir.0 (is_some (map.get tree to))) (map.get tree to)) (without_row pins (map.get tree to))
  moved_counted from to inode move = record {
    each = left_counted (with_moved tree from to inode) (counts_moved counts from.dir.0 to.dir.0 (is_some (map.get tree to))) (map.get tree to) (moved_counts tree counts from to inode tabled.whole counted.each move)
        (λ gone there. replaced_empty tree from to inode tabled.whole move gone there);
    pinned = moved_pins tree pins from to inode tabled.whole counted.pinned move;
  }
