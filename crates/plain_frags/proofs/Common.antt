-- Names of other crates, and of this one's definitions, as the proofs of this crate take them.
pub use Rattle.inode_table.proofs.MoveLaws.{may_relocate, may_replace, moved_tabled, target_stays}
pub use Rattle.inode_table.proofs.TableLaws.{above_is, added_tabled, empty_tabled, known_is, leaves_kept, leaves_same, may_come, may_drop, removed_tabled, set_tabled}
pub use Rattle.inode_table.specs.Dirs.{Covers, IsLeafAt}
pub use Rattle.inode_table.specs.TreeTable.{without_cover}
pub use Rattle.mds_types.proofs.EntryLaws.{any_of}
pub use Rattle.mds_types.proofs.EntrySearch.{any_found}
pub use Rattle.mds_types.proofs.ListingLaws.{entries_listed, no_entries_listed}
pub use Rattle.mds_types.proofs.OrderLaws.{dentry-total}
pub use Rattle.mds_types.specs.OrderLaws.{dentry-exact}
pub use Rattle.mds_types.specs.Step.{is_after}
pub use Rattle.mds_types.specs.Tree.{IsUnused, IsWellFormed, Tree, dentry_cmp, dentry_of, entries_in, has_entries, is_above, is_directory, is_in}
pub use Rattle.mds_types.specs.declared.dentries.Dentry.{Dentry}
pub use Rattle.mds_types.specs.declared.inodes.Inode.{Inode}
pub use Rattle.namespace_ops.proofs.OtherLeaves.{others_stay}
pub use Rattle.namespace_ops.specs.Changes.{fragments_of}
pub use Rattle.namespace_ops.specs.Kept.{ChangesOnly, IsStanding, ShowsTheSame}
pub use Rattle.plain_frags.specs.PlainFrags.{Kept, is_numbered}
pub use Rattle.plain_frags.specs.Run.{run}
pub use Rattle.sorted_map.proofs.Bools.{left_of, right_of}
pub use Rattle.sorted_map.proofs.NatKeys.{is_apart, is_same}
pub use Rattle.sorted_map.specs.SortedMap.{contents}
pub use Rattle.std.proofs.Common.{Bool, List, None, Option, Some, T, [], ap, arith, cond, false, filter, is_some, length, map, not, refl, rules, subst, subst₂, suc, sym, true, ℕ, ◌&&◌, ◌++◌, ◌+◌, ◌<◌, ◌==◌, ◌↔◌, ◌∙◌, ◌∷◌, ◌≡◌, ◌≤◌}
pub use Rattle.std.proofs.lemmas.Bool.{eqb-true}
pub use Rattle.std.proofs.lemmas.Bool.Decides.{nat_tests}
pub use Rattle.std.specs.Cmp.{ranks}
pub use Rattle.std.specs.Cmp.Lexicographic.{slice_cmp}
pub use Rattle.std.specs.FinMap.{entries-from_sorted, entries_sorted, get-entries, get-from_sorted, get-retain_keys, is_sorted, len-entries, same_map}
pub use Rattle.std.specs.FinMap.Entries.{below_all, find-where_key, is_sorted-where_key}
pub use Rattle.std.specs.List.{list_any}
pub use Rattle.std.specs.Option.{MatchOption, option_copied}
pub use Rattle.std.specs.Ordering.{MatchOrdering, is_le, is_lt, nat_cmp, ordering_then}
pub use Rattle.std.specs.declared.cmp.Ordering.{Ordering}
pub use Rattle.std.specs.declared.cmp.Ordering.TheVariants.{Equal, Greater, Less}
