-- Names of other crates, and of this one's definitions, as the proofs of this crate take them.
pub use Rattle.cold_store.specs.ColdTree.{HasOneColdTree, HasRecords, IsColdLeaf, IsFaulty, IsReached, IsRecord, IsSamePlace, Record, tree_object_of}
pub use Rattle.cold_store.specs.Left.{AreAllBut, AreNamesOf, EndsNames, IsLastOf, leaf_texts, texts_from, texts_in, with_keys, keys_without}
pub use Rattle.cold_store.specs.Numbers.{IsNextNumber, IsOfRank, passed, passed_all}
pub use Rattle.cold_store.specs.Rows.{AreGoodDirs, AreGoodLeaves, Finding, HasPairs, IsBadAmong, IsBadIn, IsBadLeaf, IsBadTree, IsGoodDir, IsGoodLeaf, IsGoodTree, IsIn, IsMetDir, IsWalkedTo, MayNotAdd, Walked, are_new, cover_in, covers_from, is_met, stored_leaves, stored_names, records_at, records_from, rows_in, rows_of, rows_under, root_alone, with_cover, walked_with, with_rows}
pub use Rattle.cold_store.specs.Walked.{IsWalked, MayFail}
pub use Rattle.dentry_cache.proofs.LoadLaws.{loaded_fits, loaded_is_saved, loaded_shows}
pub use Rattle.dentry_cache.specs.Loading.{Loads, MayNotLoad, object_of}
pub use Rattle.dentry_cache.specs.Ties.{names_at}
pub use Rattle.dirfrag_codec.proofs.ByteKeys.{get_left, get_removed, same_or_apart}
pub use Rattle.dirfrag_codec.specs.FragmentObject.{Names}
pub use Rattle.fragtree.proofs.TreeLaws.{first, later}
pub use Rattle.fragtree.specs.FragTree.{HasLeaf, Tiles}
pub use Rattle.inode_table.proofs.NotedLaws.{none_counted, none_with}
pub use Rattle.inode_table.specs.Dirs.{Counts, Covers, DirPins, is_known, or_whole}
pub use Rattle.inode_table.specs.Numbers.{Supply, end_number, first_number}
pub use Rattle.inode_table.specs.TreeTable.{IsCounted, IsTabled, with_count}
pub use Rattle.mds_types.proofs.ListingLaws.{greater_than_row, less_is}
pub use Rattle.mds_types.proofs.OrderLaws.{dentry-total}
pub use Rattle.mds_types.specs.Frag.{Fragment, span}
pub use Rattle.mds_types.specs.Leaf.{Leaf}
pub use Rattle.mds_types.specs.OrderLaws.{dentry-exact}
pub use Rattle.mds_types.specs.Step.{is_after}
pub use Rattle.mds_types.specs.Tree.{Tree, dentry_cmp}
pub use Rattle.mds_types.specs.declared.dentries.Dentry.{Dentry}
pub use Rattle.mds_types.specs.declared.ids.Ino.{Ino}
pub use Rattle.mds_types.specs.declared.inodes.Inode.{Inode}
pub use Rattle.mds_types.specs.declared.object_names.ObjName.{ObjName}
pub use Rattle.mds_types.specs.declared.refusals.Refusal.{Refusal}
pub use Rattle.mds_types.specs.declared.refusals.Refusal.TheVariants.{BadSplit, Damaged, Frozen, InboxEmpty, InboxFull, JobOutstanding, NoInodes, NoMemory, NoSuchFrag, NotAuthority, NotClean, NothingToEvict, Pinned, StaleJob, StoreFault, TooManyFrags, Trimmed, WrongExportState}
pub use Rattle.objstore.specs.Objects.{MayRefuse, NameList, Objects, faults_told, first_names, object_names_after}
pub use Rattle.objstore.specs.Omap.{Keys, Omap, PairMap, PairPage, key_cmp, page_of}
pub use Rattle.sorted_map.proofs.Filters.{all_kept}
pub use Rattle.sorted_map.specs.SortedMap.{contents}
pub use Rattle.std.proofs.Common.{Bool, Err, IfErr, List, None, Ok, OnOk, Option, Result, Some, [], ap, arith, cond, drop, false, filter, get_or, inl, inr, is_some, length, not, refl, slice_get, subst, suc, sym, take, true, zero, ℕ, ◌&&◌, ◌++◌, ◌+◌, ◌-◌, ◌<◌, ◌^◌, ◌||◌, ◌∙◌, ◌∷◌, ◌≡◌, ◌≤◌, ◌⊎◌}
pub use Rattle.std.proofs.lemmas.Bool.{and_parts, or_right}
pub use Rattle.std.proofs.lemmas.Bool.Decides.{nat_tests}
pub use Rattle.std.proofs.lemmas.List.{drop-map, drop_more, get_or-take, get_or_default, length-append, length-take-le, map_push, take-append-drop, take-append-le, take_all, take_more}
pub use Rattle.std.proofs.lemmas.Option.{get_or_from_slice_get, same_Some, slice_get-get_or, slice_get-map}
pub use Rattle.std.specs.Cmp.Lexicographic.{nat_list_cmp_total}
pub use Rattle.std.specs.FinMap.{empty_of_len, entries_sorted, find, get-empty, get-entries, get-insert, len-empty, len-entries, same_map}
pub use Rattle.std.specs.FinMap.Entries.{is_sorted-where_key}
pub use Rattle.std.specs.Option.{option_map}
pub use Rattle.std.specs.Ordering.{eq_by_cmp, is_lt}
pub use Rattle.std.specs.Prelude.{nat_le, nat_lt, option_copied, string_bytes, ◌==◌}
pub use Rattle.std.specs.Result.{result_err}
