-- Names of other crates, and of this one's definitions, as the proofs of this crate take them.
pub use Rattle.cached_frag.specs.Cached.{AreEntries, Cached, IsBased, marked, shown_names, shown_over}
pub use Rattle.cached_frag.specs.Commit.{keys_after_marks, with_records}
pub use Rattle.cached_frag.specs.Counted.{counted, counted_or}
pub use Rattle.cached_frag.specs.Counting.{dirs_among, files_among, is_dir, is_file}
pub use Rattle.cached_frag.specs.Kept.{IsCachedWith}
pub use Rattle.cached_frag.specs.Marks.{AreDirtyNames, IsDirtyName, Marks, inode_or, patched, with_changed_name, with_marks}
pub use Rattle.cached_frag.specs.Moving.{Joins, TakesIn, marked_as, shown_as}
pub use Rattle.cached_frag.specs.Rows.{Change, NamedInode, changed_rows, head_of, merged, merged_one, rows_after, rows_left, with_change}
pub use Rattle.cached_frag.specs.SameMarks.{mark_decides}
pub use Rattle.cached_frag.specs.Settling.{settled_in}
pub use Rattle.cached_frag.specs.Snap.{counts_of}
pub use Rattle.cached_frag.specs.declared.bases.Base.{Base}
pub use Rattle.cached_frag.specs.declared.bases.Base.TheVariants.{Fresh, Stored}
pub use Rattle.cached_frag.specs.declared.bases.EntryCounts.{EntryCounts}
pub use Rattle.cached_frag.specs.declared.marks.Mark.{Mark}
pub use Rattle.dirfrag_codec.proofs.ByteKeys.{get_beside, get_left, get_put, get_removed, key_apart, key_same, key_tied, not_found, one_map, same_or_apart}
pub use Rattle.dirfrag_codec.specs.FragmentObject.{Names, dirs_in, files_in}
pub use Rattle.mds_types.proofs.EntrySearch.{not_found_below}
pub use Rattle.mds_types.specs.Step.{is_after}
pub use Rattle.mds_types.specs.Tree.{is_dir_kind}
pub use Rattle.mds_types.specs.declared.inodes.Inode.{Inode}
pub use Rattle.objstore.specs.Omap.{key_cmp}
pub use Rattle.sorted_map.proofs.Bools.{both_of, left_of, right_of}
pub use Rattle.sorted_map.proofs.Filters.{all_kept}
pub use Rattle.sorted_map.proofs.MapLaws.{entries-contents}
pub use Rattle.sorted_map.specs.SortedMap.{Shown, contents}
pub use Rattle.std.proofs.Common.{Bool, List, None, Option, Some, [], ap, arith, cond, false, inl, inr, length, not, refl, rules, subst, sym, true, ℕ, ◌++◌, ◌+◌, ◌-◌, ◌<◌, ◌^◌, ◌∙◌, ◌∷◌, ◌≡◌, ◌≤◌, ◌⊎◌}
pub use Rattle.std.proofs.lemmas.List.{nil_from_length}
pub use Rattle.std.proofs.lemmas.Map.Lookups.{exact_bytes}
pub use Rattle.std.specs.Cmp.Lexicographic.{nat_list_cmp_total}
pub use Rattle.std.specs.FinMap.{entries-insert, entries_sorted, find, get-empty, get-entries, is_sorted, len-empty, len-entries}
pub use Rattle.std.specs.FinMap.Entries.{below_all, by_order, find-where_key, is_sorted-where_key, put, same_entries, where_key}
pub use Rattle.std.specs.List.{AllByRecursion}
pub use Rattle.std.specs.Ordering.{eq_by_cmp, is_eq, is_lt, ordering_reverse}
pub use Rattle.std.specs.Prelude.{Err, IfOk, Ok, Result, T, filter, option_copied}
pub use Rattle.std.specs.declared.cmp.Ordering.{Ordering}
pub use Rattle.std.specs.declared.cmp.Ordering.TheVariants.{Equal, Greater, Less}
