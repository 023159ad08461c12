-- Names of other crates, and of this one's definitions, as the proofs of this crate take them.
pub use Rattle.fragtree.proofs.FirstKeys.{frag_le}
pub use Rattle.fragtree.proofs.Ranges.{Contains-from_range, ends_before, ends_low, lies_inside-true, range_from_inside, span_pos}
pub use Rattle.fragtree.proofs.Tilings.{between}
pub use Rattle.fragtree.proofs.TreeLaws.{child_after_split, merged_after_merge, pick_after_merge, pick_after_split, some_pick}
pub use Rattle.fragtree.specs.FragTree.{CanMerge, FitsSplit, HasLeaf, IsChild, IsMerge, IsPick, IsSplit, IsTree, Tiles, leaves_inside, lies_inside}
pub use Rattle.inode_table.proofs.Chains.{climbed, known_reaches, nearer, parent_reaches}
pub use Rattle.inode_table.proofs.Tables.{known_by, still_known, tree_of_row}
pub use Rattle.inode_table.specs.Dirs.{Covers, Homes, IsAncestor, IsChildless, IsLeafAt, IsLive, IsTable, MayCome, MayMove, Reaches, further, is_known, leaves_of, or_whole, parent}
pub use Rattle.inode_table.specs.declared.dirs.Home.{Home}
pub use Rattle.mds_types.proofs.Fragments.{span-split}
pub use Rattle.mds_types.proofs.LeafLaws.{get_beside, get_left, get_put, get_removed, leaf-exact, leaf-total, same_or_apart, tied_apart, tied_same}
pub use Rattle.mds_types.specs.Frag.{Contains, Fragment, IsFragment, child_of, frag_cmp, span}
pub use Rattle.mds_types.specs.Leaf.{Leaf, leaf_cmp}
pub use Rattle.mds_types.specs.declared.ids.Ino.{Ino}
pub use Rattle.mds_types.specs.declared.ids.Rank.{Rank}
pub use Rattle.namehash.specs.Rjenkins.{hash_of}
pub use Rattle.sorted_map.proofs.Bools.{left_of, right_of}
pub use Rattle.sorted_map.proofs.MapLaws.{tie}
pub use Rattle.sorted_map.proofs.NatKeys.{is_apart, is_same}
pub use Rattle.sorted_map.specs.SortedMap.{contents, is_from}
pub use Rattle.std.proofs.Common.{Err, List, MatchOption, Ok, OnErr, Result, ap, append-nil, append_assoc, arith, drop, get_or, get_or-set_other, get_or-set_same, inl, inr, length, length-append, length-set, rules, set, subst, sym, ◌<◌, ◌∙◌}
pub use Rattle.std.proofs.Math.Nat.{mul-le-mul_left}
pub use Rattle.std.proofs.lemmas.Bool.{and_from, and_left, and_parts, and_right, cases_eq, cases_lt, eqb-true, or_left}
pub use Rattle.std.proofs.lemmas.Bool.Decides.{nat_tests}
pub use Rattle.std.proofs.lemmas.List.Elements.{Contains-append_cases, Contains-append_left, Contains-append_right}
pub use Rattle.std.proofs.lemmas.List.Folds.{list_any-append}
pub use Rattle.std.proofs.lemmas.Nat.{one_shl}
pub use Rattle.std.proofs.lemmas.Option.{same_Some}
pub use Rattle.std.specs.Cmp.{ranks, tied_itself}
pub use Rattle.std.specs.FinMap.{contains_key-keys, empty_of_len, entries_sorted, find, get-empty, get-entries, get-from_sorted, get-insert, is_sorted, len-remove, same_map}
pub use Rattle.std.specs.FinMap.Entries.{below_all, find-where_key, is_sorted-where_key, where_key}
pub use Rattle.std.specs.List.{AllByRecursion, list_any}
pub use Rattle.std.specs.List.Sorted.{IsStrictlySortedBy}
pub use Rattle.std.specs.Option.{option_copied, option_or}
pub use Rattle.std.specs.Ordering.{MatchOrdering, eq_by_cmp, is_eq, is_le, is_lt, nat_cmp, ordering_reverse, ordering_then}
pub use Rattle.std.specs.Prelude.{Bool, IsSome, None, Option, Some, T, Vec, [], cond, false, if◌then◌else◌, is_some, option_map, refl, suc, take, true, zero, ℕ, ◌%◌, ◌&&◌, ◌*◌, ◌++◌, ◌+◌, ◌-◌, ◌==◌, ◌^◌, ◌||◌, ◌↔◌, ◌∷◌, ◌≡◌, ◌≢◌, ◌≤◌, ◌⊎◌}
pub use Rattle.std.specs.Vec.{with_items}
pub use Rattle.std.specs.declared.alloc.Global.{Global}
pub use Rattle.std.specs.declared.cmp.Ordering.{Ordering}
pub use Rattle.std.specs.declared.cmp.Ordering.TheVariants.{Equal, Greater, Less}
pub use Rattle.subtree_map.specs.Authority.{BoundsOneRegion, HasAuthority, HasOneRoot, HoldsDentry, IsBound, IsInOneRegion, LocatesLeaf, IsSubtrees, NearestRoot, Roots, inherited, itself}
pub use Rattle.subtree_map.specs.Changes.{AreFilled, AreGone, BecomesMerged, BecomesSplit, DropsSoundly, HaveOneAuthority, IsCutOff, IsHanded, IsRootMerge, IsRootSplit, KeepAuthority, MergesSoundly, SplitsSoundly, StaysElsewhere, Subtrees, is_inside, leaf_in_dir}
pub use Rattle.subtree_map.specs.Climb.{FindsAbove, FindsRow, IsNearestRow, IsNextBelow}
pub use Rattle.subtree_map.specs.Lists.{AreEach, AreLists, AreOnce, Corrects, HasDropped, HasGrown, HasHints, HasLearnt, HasSame, HaveNone, HaveRoom, Hears, IsClaimed, IsCorrected, IsPut, ListRows, claim_of, claimed, corrected, demoted, entry_at, entry_or_nothing, first_told, heard, hinted, home_of, is_leaf_after, known_after, knows, learnt, leaves_of_lists, adds_row, no_rows, promised, promised_after, row_by, rows_at, said, says_at, ranks_of_leaves, told, with_rank_of}
pub use Rattle.subtree_map.specs.Moves.{IsInheritedAt, IsLostRank, KeepsRanksOf, MovesSoundly}
pub use Rattle.subtree_map.specs.Rows.{AreChildrenSet, AreTakenOut, IsFilled, IsFirst, IsFirstBy, IsFirstRow, IsRootIfSome, lesser_of, rows_from}
pub use Rattle.subtree_map.specs.declared.entries.Entry.{Entry}
pub use Rattle.subtree_map.specs.declared.entries.Known.{Known}
pub use Rattle.subtree_map.specs.declared.entries.Known.TheVariants.{Claim, Hint, Nothing}
pub use Rattle.subtree_map.specs.declared.entries.News.{News}
pub use Rattle.subtree_map.specs.declared.entries.News.TheVariants.{Claimed, Ended, Handed, Promised, Withdrawn}
