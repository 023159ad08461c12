-- Names of other crates, and of this one's definitions, as the proofs of this crate take them.
pub use Rattle.export_steps.specs.ByExporter.{AreExports, IsRootBehind, IsFirstKey, IsNextOf, IsNextRoot, RootsBy, by_cmp, comes, first_root_of, is_export_of}
pub use Rattle.export_steps.specs.Handover.{CancelsSoundly, FinishesSoundly, FreezesSoundly, HandsOver, KeepFrozen, KeepHolders, StepsSoundly}
pub use Rattle.export_steps.specs.Holder.{HasHolder, IsFrozen, held_by, holder_or, holding, is_imported, region_holder}
pub use Rattle.export_steps.specs.Regions.{AreFrozenRegionsKept, IsMakingElsewhere, IsMergeElsewhere, IsMoveElsewhere, IsRemovalElsewhere, IsReplacedElsewhere, IsSplitElsewhere, StandsOver}
pub use Rattle.export_steps.specs.Standing.{AreBetweenRanks, ArePlaced, Cancels, ComesTo, Finishes, Freezes, IsBetweenRanks, IsCancel, IsFinish, IsFreeze, IsPrep, IsStart, Preps, Standing, Starts, come_to, is_before_send, is_freezing, is_prepared}
pub use Rattle.export_steps.specs.declared.exports.ExportState.{ExportState}
pub use Rattle.export_steps.specs.declared.exports.ExportState.TheVariants.{Frozen, Imported, Prepared, Sent, Started}
pub use Rattle.export_steps.specs.declared.exports.StandingExport.{StandingExport}
pub use Rattle.fragtree.specs.FragTree.{CanMerge, FitsSplit, HasLeaf, IsChild, IsMerge, IsPick, IsSplit, IsTree}
pub use Rattle.inode_table.proofs.Tables.{known_by, still_known, tree_of_row}
pub use Rattle.inode_table.specs.Dirs.{Covers, Homes, IsChildless, IsLive, IsTable, MayCome, MayMove, is_known, leaves_of}
pub use Rattle.inode_table.specs.declared.dirs.Home.{Home}
pub use Rattle.mds_types.proofs.LeafLaws.{get_beside, get_left, get_put, get_removed, leaf-exact, leaf-total, same_or_apart, tied_apart, tied_same}
pub use Rattle.mds_types.specs.Frag.{Fragment, root_fragment}
pub use Rattle.mds_types.specs.Leaf.{Leaf, leaf_cmp}
pub use Rattle.mds_types.specs.declared.ids.Ino.{Ino}
pub use Rattle.mds_types.specs.declared.ids.Rank.{Rank}
pub use Rattle.mds_types.specs.declared.refusals.Refusal.{Refusal}
pub use Rattle.mds_types.specs.declared.refusals.Refusal.TheVariants.{NoMemory, WrongExportState}
pub use Rattle.namehash.specs.Rjenkins.{hash_of}
pub use Rattle.sorted_map.proofs.Bools.{left_of, right_of}
pub use Rattle.sorted_map.proofs.MapLaws.{tie}
pub use Rattle.sorted_map.proofs.NatKeys.{is_same}
pub use Rattle.sorted_map.specs.SortedMap.{contents}
pub use Rattle.std.proofs.Common.{ap, arith, inl, inr, rules, subst, sym, ◌∙◌}
pub use Rattle.std.proofs.lemmas.Bool.{eqb-true, false_from_ne_true}
pub use Rattle.std.proofs.lemmas.Map.Lookups.{exact_pairs}
pub use Rattle.std.proofs.lemmas.Option.{slice_get_past}
pub use Rattle.std.specs.Cmp.{IsTotalOrder, nat_cmp_total, on_total, ranks, then_total, tied_itself}
pub use Rattle.std.specs.FinMap.{IsAntisymmetric, entries_sorted, find, get-empty, get-entries, get-from_entries, get-insert, get-remove, is_sorted, len-entries, nat_cmp-IsAntisymmetric, same_map}
pub use Rattle.std.specs.FinMap.Entries.{below_all, find-where_key, is_sorted-where_key, where_key}
pub use Rattle.std.specs.List.{slice_get}
pub use Rattle.std.specs.Ordering.{MatchOrdering, eq_by_cmp, is_eq, is_le, is_lt, nat_cmp, ordering_then}
pub use Rattle.std.specs.Prelude.{Bool, Err, IfErr, IfSome, IsSome, IsTrue, List, MatchOption, None, Ok, OnErr, OnOk, Option, Result, Some, T, [], cond, false, is_some, length, option_map, refl, true, ℕ, ◌<◌, ◌==◌, ◌||◌, ◌↔◌, ◌∷◌, ◌≡◌, ◌≢◌, ◌≤◌, ◌⊎◌}
pub use Rattle.std.specs.declared.cmp.Ordering.{Ordering}
pub use Rattle.std.specs.declared.cmp.Ordering.TheVariants.{Equal, Greater, Less}
pub use Rattle.subtree_map.proofs.Covers.{child_is_new, leaves_left, leaves_now, leaves_still, merged_is_new, some_inside}
pub use Rattle.subtree_map.proofs.Merged.{elsewhere_out, here_out, is_within, merges_soundly, outside_of}
pub use Rattle.subtree_map.proofs.Nearest.{is_itself, is_ranked, one_authority, one_root, some_root}
pub use Rattle.subtree_map.proofs.Options.{not_none, one_value, value_of}
pub use Rattle.subtree_map.proofs.Split.{splits_soundly, stands_beside, stands_here}
pub use Rattle.subtree_map.specs.Authority.{HasAuthority, HoldsDentry, IsInRegion, IsSubtrees, NearestRoot, Roots, inherited, itself}
pub use Rattle.subtree_map.specs.Changes.{AreGone, BecomesMerged, BecomesSplit, HaveOneAuthority, IsRootMerge, IsRootSplit, KeepAuthority, Subtrees, is_inside, leaf_in_dir}
pub use Rattle.subtree_map.specs.Moves.{KeepsRanksOf}
