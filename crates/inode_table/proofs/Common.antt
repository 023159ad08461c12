-- Names of other crates, and of this one's definitions, as the proofs of this crate take them.
pub use Rattle.fragtree.specs.FragTree.{CanSplit, IsPick, IsSplit, IsTree}
pub use Rattle.inode_table.specs.Dirs.{Counts, DirPins, Homes, IsAncestor, IsTable, DirTable, count_of, is_known, leaves_of, one_more, or_whole, or_zero, parent, pinned_at}
pub use Rattle.inode_table.specs.Order.{dirs_after, trees_after}
pub use Rattle.inode_table.specs.Pinned.{IsAfter, IsFirstPinned, IsNextPinned}
pub use Rattle.inode_table.specs.Rows.{DirRows, counts_with_root, covers_of, homes_of, leaves_of_row, or_first, pin_in, pins_of}
pub use Rattle.inode_table.specs.Settings.{LeavesAndPin}
pub use Rattle.inode_table.specs.TreeTable.{IsCounted, IsTabled, with_dir_pin}
pub use Rattle.inode_table.specs.declared.dirs.Directory.{Directory}
pub use Rattle.mds_types.proofs.CountLaws.{entries_go, none_in_empty, some_in}
pub use Rattle.mds_types.proofs.DirectoryLaws.{one_dentry}
pub use Rattle.mds_types.proofs.EntryLaws.{get_left, stands_after_removal}
pub use Rattle.mds_types.proofs.OrderLaws.{dentry-total}
pub use Rattle.mds_types.specs.Frag.{Fragment}
pub use Rattle.mds_types.specs.OrderLaws.{dentry-exact}
pub use Rattle.mds_types.specs.Tree.{Tree, dentry_cmp, is_dir_kind, is_in}
pub use Rattle.mds_types.specs.declared.dentries.Dentry.{Dentry}
pub use Rattle.mds_types.specs.declared.ids.Ino.{Ino}
pub use Rattle.mds_types.specs.declared.ids.Rank.{Rank}
pub use Rattle.mds_types.specs.declared.inodes.Inode.{Inode}
pub use Rattle.mds_types.specs.declared.refusals.Refusal.{Refusal}
pub use Rattle.sorted_map.proofs.Bools.{left_of, right_of}
pub use Rattle.sorted_map.proofs.ContentLaws.{first_taken, len_shown, retained}
pub use Rattle.sorted_map.proofs.MapLaws.{contents-entries, tie}
pub use Rattle.sorted_map.proofs.NatKeys.{get_beside, get_put}
pub use Rattle.sorted_map.specs.SortedMap.{contents, shown_with_room}
pub use Rattle.std.proofs.Common.{Err, List, None, Ok, OnErr, OnOk, Option, Result, Some, T, [], ap, arith, cond, false, inl, inr, is_some, length, option_map, refl, rules, subst, subst₂, sym, true, ℕ, ⊎_elim, ◌+◌, ◌-◌, ◌<◌, ◌^◌, ◌↔◌, ◌∙◌, ◌∷◌, ◌≡◌, ◌≤◌, ◌⊎◌}
pub use Rattle.std.proofs.lemmas.Bool.{not-true}
pub use Rattle.std.proofs.lemmas.Cmp.{ranked}
pub use Rattle.std.specs.Cmp.{nat_cmp_total, tied_itself}
pub use Rattle.std.specs.FinMap.{entries_sorted, find, get-empty, get-entries, get-from_sorted, is_sorted, len-entries, nat_cmp-IsAntisymmetric}
pub use Rattle.std.specs.FinMap.Entries.{below_all, find-where_key, is_sorted-where_key, where_key}
pub use Rattle.std.specs.Option.{option_copied}
pub use Rattle.std.specs.Ordering.{eq_by_cmp, is_eq, is_lt, nat_cmp}
pub use Rattle.std.specs.Prelude.{IsSome, slice_get}
pub use Rattle.std.specs.declared.cmp.Ordering.TheVariants.{Less}
