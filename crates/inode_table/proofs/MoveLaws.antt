-- The directory table stays that of the tree where an entry moves.
use Rattle.std.proofs.Common.{◌≡◌, true, is_some, Some, ⊎_elim, refl, sym, ap, subst, ◌∙◌}
use Rattle.std.specs.FinMap as map
use Rattle.mds_types.specs.declared.dentries.Dentry.{Dentry}
use Rattle.mds_types.specs.declared.inodes.Inode.{Inode}
use Rattle.mds_types.specs.Tree.{Tree, is_dir_kind, IsWellFormed, NothingIn}
use Rattle.mds_types.specs.Step.{with_moved, IsMove}
use Rattle.mds_types.proofs.MovedLaws.{MayMove as MayMoveIn, may_move, well-formed-moved, stands_moved}
use Rattle.mds_types.proofs.EntryLaws.{get_left}
use Rattle.inode_table.specs.declared.dirs.Home.{Home}
use Rattle.inode_table.specs.Dirs.{Homes, MayGo, MayMove}
use Rattle.inode_table.specs.TreeTable.{HoldsHomes, IsTabled, home_at, with_home, without_home}
use Rattle.inode_table.proofs.TableLaws.{above_in_tree, childless, held_homes, home_of, home_value, homes_held, homes_without, known_is, with_differ, with_here}
use Rattle.inode_table.proofs.HeldRows.{back, moved_held}

module _ (tree : Tree) (homes : Homes) (from to : Dentry) (inode : Inode) (tabled : IsTabled tree homes) (move : IsMove tree from to inode) where
  may : MayMoveIn tree from to inode
  may = may_move tree from to inode tabled.whole move

  -- the table may move a directory where the tree may
  pub may_relocate : is_dir_kind inode.kind ≡ true → MayMove homes inode.ino.0 (home_at to)
  may_relocate kinded = record {
    there = ap is_some (home_of tree homes tabled from inode inode.ino.0 may.stands refl kinded);
    parent_known = known_is tree homes tabled to.dir.0 ∙ may.parent;
    other = λ same. may.other (sym same);
    not_below = λ above. may.not_below (above_in_tree tree homes tabled inode.ino.0 to.dir.0 above);
  }

  -- what is replaced may go, also after the move: it isn't the root, and no directory is in it
  pub may_replace : (gone : Inode) → map.get tree to ≡ Some gone → MayGo (with_home homes to inode) gone.ino.0
  may_replace gone there = record {
    other = tabled.whole.rootless to.dir.0 to.name gone there;
    childless = λ x home is same.
        ⊎_elim
        (λ w.
        let homes_are : Some (home_at to) ≡ Some home = sym (with_here homes to inode w.1) ∙ ap (map.get (with_home homes to inode)) (sym w.0) ∙ is in
        let one : home_at to ≡ home = cc in
        may.replaces gone there to gone there (ap (λ (h : Home). h.parent.0) one ∙ same))
        (λ w. childless tree homes gone.ino.0 tabled (may.replaces gone there) x home w.1 same) (back homes _ inode (with_differ homes to inode) x home is);
  }

  pub moved_tabled : IsTabled (with_moved tree from to inode) (without_home (with_home homes to inode) (map.get tree to))
  moved_tabled = record {
    whole = well-formed-moved tree from to inode tabled.whole may;
    holds = subst (HoldsHomes (with_moved tree from to inode)) (sym (homes_without (with_home homes to inode) (map.get tree to)))
        (held_homes _ _ (moved_held home_value tree homes tabled.whole (homes_held tree homes tabled.holds) _ from to inode may (with_differ homes to inode) (with_here homes to inode)));
  }

  -- what stands at the target stands there also once the entry was taken
  pub target_stays : map.get (map.remove tree from) to ≡ map.get tree to
  target_stays = get_left tree from to (λ same. may.apart (sym same))

-- where an entry moved, nothing is in what it replaced
pub replaced_empty : (tree : Tree) (from to : Dentry) (inode : Inode) → IsWellFormed tree → IsMove tree from to inode → (gone : Inode) → map.get tree to ≡ Some gone → NothingIn (with_moved tree from to inode) gone.ino.0
replaced_empty tree from to inode whole move gone there q x stands same =
    let may = may_move tree from to inode whole move in
    ⊎_elim
    (λ w. may.replaces gone there to gone there (ap (λ (p : Dentry). p.dir.0) (sym w.0) ∙ same))
    (λ w. may.replaces gone there q x w.2 same)
    (stands_moved tree from to inode whole may q x stands)
