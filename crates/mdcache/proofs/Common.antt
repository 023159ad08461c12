-- Names of other crates, and of this one's definitions, as the proofs of this crate take them.
pub use Rattle.cached_frag.proofs.MarkLaws.{get-patched, marked_beside, marked_here}
pub use Rattle.cached_frag.proofs.SettledLaws.{get-unsettled}
pub use Rattle.cached_frag.proofs.ShownLaws.{only_below, shown_put}
pub use Rattle.cached_frag.specs.Cached.{Cached, imported, is_clean, is_clean_over, is_settled, marked, shown_names, shown_over, unsettled}
pub use Rattle.cached_frag.specs.Commit.{Carried, write_of}
pub use Rattle.cached_frag.specs.Marks.{Marks, inode_or, with_changed_name, with_marks}
pub use Rattle.cached_frag.specs.Moving.{TakesIn, marked_as}
pub use Rattle.cached_frag.specs.Rows.{NamedInode, rows_after, rows_left}
pub use Rattle.cached_frag.specs.Snap.{IsBelowEnd, IsSnap, Snap, counts_of, next_version}
pub use Rattle.cached_frag.specs.declared.bases.Base.{Base}
pub use Rattle.cached_frag.specs.declared.bases.Base.TheVariants.{Fresh, Stored}
pub use Rattle.cached_frag.specs.declared.jobs.Job.{Job}
pub use Rattle.cached_frag.specs.declared.marks.Mark.{Mark}
pub use Rattle.cold_store.proofs.Members.{in_empty, some_stays, value_of}
pub use Rattle.cold_store.proofs.ObjectLaws.{belongs, said_by, said_tree, whole_loads}
pub use Rattle.cold_store.proofs.StoreRows.{allowed}
pub use Rattle.cold_store.proofs.TabledLaws.{walked_is_tabled}
pub use Rattle.cold_store.proofs.WalkedLaws.{is_cold}
pub use Rattle.cold_store.specs.ColdTree.{HasNoFault, HasRecords, IsColdLeaf, IsColdTree, IsFaulty, IsReached, IsRecord, IsSamePlace, Record, SaysLeaves, tree_object_of}
pub use Rattle.cold_store.specs.Walked.{IsReachedObject, IsWalked}
pub use Rattle.dentry_cache.proofs.CacheLaws.{unsaved_here as unsaved_here_at}
pub use Rattle.dentry_cache.proofs.CameLaws.{absent_roomy, edits_unclean, marked_unclean as now_unclean, used_unclean}
pub use Rattle.dentry_cache.proofs.CountLaws.{full_counts, staying}
pub use Rattle.dentry_cache.proofs.EndedLaws.{holder_there}
pub use Rattle.dentry_cache.proofs.FrameLaws.{IsLeft, came_cap, came_held, came_ranks, came_then, came_weaker, roomy_left}
pub use Rattle.dentry_cache.proofs.HandedLaws.{IsFrom, IsWholeBut, handed_from, ranks_handed, ranks_wants, wants_from, whole_handed, whole_wants}
pub use Rattle.dentry_cache.proofs.KeepingLaws.{all_from, all_of, by_keeping}
pub use Rattle.dentry_cache.proofs.KeptLaws.{roomy_stays}
pub use Rattle.dentry_cache.proofs.LacksLaws.{full_lacks as all_unclean, none_kept_at, reads_placed}
pub use Rattle.dentry_cache.proofs.LeafLaws.{flips, leaf-total, leaf_equivalence, leaf_itself, leaf_or_apart, one_leaf, same_leaf, tied_leaf}
pub use Rattle.dentry_cache.proofs.LoadLaws.{holds_contains}
pub use Rattle.dentry_cache.proofs.MapLaws.{get_tabulate, here_free}
pub use Rattle.dentry_cache.proofs.MoveLaws.{none_beside}
pub use Rattle.dentry_cache.proofs.NameParts.{get-names_in, no_child, none_either}
pub use Rattle.dentry_cache.proofs.ReadsLaws.{fetched_reads, here_is, keeps_reads, reads_came, reads_held, reads_then, reads_unclean, reads_weaker, rewrites_reads, room_changed, room_reads, room_unsaved, used_reads}
pub use Rattle.dentry_cache.proofs.SplitLaws.{split_beside, split_came, split_child, split_gone, split_unclean_beside, split_unclean_child, split_unclean_gone, split_whole}
pub use Rattle.dentry_cache.proofs.SplitShows.{below_or_it, fresh_tied}
pub use Rattle.dentry_cache.proofs.StepLaws.{by_edits, by_rewrites, cap_roomy, get_given_up, get_with_frag, has_used, held_given_up, here_beside, here_put, here_with_frag, placed_given_up, placed_used, ranks_roomy}
pub use Rattle.dentry_cache.proofs.TieLaws.{changed_are_tied, committed_are_tied, fetched_are_tied, tied_show}
pub use Rattle.dentry_cache.proofs.UncleanLaws.{any_tied, clean_there, get_unclean, last_passes, unclean_alike, unclean_given_up, unclean_gone, unclean_with}
pub use Rattle.dentry_cache.proofs.UsedLaws.{loaded_clean}
pub use Rattle.dentry_cache.proofs.WholeLaws.{none_given_up, none_rewrites, none_with_frag, none_with_mark, readies_whole, refused_whole, whole_given_up, whole_rewritten, whole_roomy, whole_used, whole_with_frag}
pub use Rattle.dentry_cache.specs.Cache.{HasCached, HasRoom, IsThere, Leaf, Unsaved, leaf_is, shows_in, unsaved_in, unsaved_of, with_unsaved}
pub use Rattle.dentry_cache.specs.CacheCalls.{CanNotKeep, Edits, FetchesAt, IsAbsent, IsEdited, HasNoKeptPlace, KeepsAt, KeepsNone, MakesRoomAt, MayNotFetchAt, MayNotKeepAt, Rewrites, going_at, kept_at, unclean_at, unclean_in}
pub use Rattle.dentry_cache.specs.CacheMap.{AreCaches, At, CacheMap, IsFree, IsFreeFor, lies_by, at_rank, clean_in, edited_as, evicted, moved_first, given_up, goes, has_place, here, no_caches, order, removed, rewritten, roomy, unclean, unclean_of, unsaved_at, used_at, victim, with_frag}
pub use Rattle.dentry_cache.specs.CacheSplits.{AreAbsent, HaveKeptPlaces, IsButPlaces, IsChildAt, IsFamilyAt, IsKeptFor, IsReadyToSplit, MayNotKeepAll, ReadsFamily, SplitsAt, SplitsInto, StaysAt, without_children}
pub use Rattle.dentry_cache.specs.Came.{Came, IsThat, NoneEnds, StaysNamed}
pub use Rattle.dentry_cache.specs.Came.Came.{alters, ends, has, stays, uses}
pub use Rattle.dentry_cache.specs.Commits.{IsCommitted, leaf_text}
pub use Rattle.dentry_cache.specs.Divided.{IsNoChild, names_in}
pub use Rattle.dentry_cache.specs.Ended.{ended, ended_all, ended_at}
pub use Rattle.dentry_cache.specs.Handing.{AreCleanAt, AreHanded, AreUncleanAt, HandsFragmentsOver, HaveNoPlace, MayNotHandOver, WantsPlace, handed, kept_all, moved, moved_all, moved_as, without_all}
pub use Rattle.dentry_cache.specs.Loading.{IsSaved, Loads, object_of}
pub use Rattle.dentry_cache.specs.Pairs.{holds}
pub use Rattle.dentry_cache.specs.Reads.{IsButRoom, IsReadOf, Reads}
pub use Rattle.dentry_cache.specs.Reads.Reads.{frees, grows, loads, room, stays as it_stays}
pub use Rattle.dentry_cache.specs.Ties.{Commits, IsTied, IsTiedAt, Keeps, names_at, object_after}
pub use Rattle.dentry_cache.specs.Unclean.{unclean_among, unclean_from, unclean_places}
pub use Rattle.dentry_cache.specs.declared.parts.Part.{Part}
pub use Rattle.dirfrag_codec.proofs.ByteKeys.{get_beside, get_left, get_put, get_removed, key_itself, key_tied, not_found, one_map, same_or_apart as key_or_apart}
pub use Rattle.dirfrag_codec.proofs.FragmentLaws.{spells_what_it_shows}
pub use Rattle.dirfrag_codec.proofs.TreeLaws.{one_tree}
pub use Rattle.dirfrag_codec.specs.EntryRecord.{HasTarget, IsRankNumber, IsRecordable}
pub use Rattle.dirfrag_codec.specs.FragmentObject.{Names, SpellsFragment, SpellsTreeObject}
pub use Rattle.dirfrag_codec.specs.TreeObject.{SpellsTree, tree_bytes}
pub use Rattle.fragtree.proofs.Entries.{one_or_other}
pub use Rattle.fragtree.proofs.Ranges.{range_from_inside, span_pos}
pub use Rattle.fragtree.proofs.Spelled.{one_leaf as one_of_hash}
pub use Rattle.fragtree.proofs.Tilings.{between}
pub use Rattle.fragtree.proofs.TreeLaws.{first_or_later, later, merged_after_merge, one_pick, only_leaf, pick_after_merge, pick_after_split, pick_from_leaf, some_pick}
pub use Rattle.fragtree.specs.FragTree.{CanMerge, CanSplit, HasLeaf, IsChild, IsMerge, IsPick, IsSplit, IsTree, leaves_inside, lies_inside}
pub use Rattle.inode_table.proofs.MoveLaws.{may_relocate, may_replace, moved_tabled, replaced_empty}
pub use Rattle.inode_table.proofs.NotedLaws.{added_counted, moved_counted, none_counted, removed_counted, set_counted}
pub use Rattle.mds_types.proofs.CountLaws.{none_counted as told_none}
pub use Rattle.inode_table.proofs.TableLaws.{above_is, added_tabled, dir_or_not, empty_tabled, known_is, leaves_kept, may_come, may_drop, no_pin, nothing_in, removed_tabled, set_tabled, with_dir, with_file}
pub use Rattle.inode_table.proofs.Tables.{adopted_table, dropped_table, known_by, moved_table, set_table, still_known, tree_of_row}
pub use Rattle.inode_table.proofs.TreeOrder.{all_trees, first_has_tree, first_tree_known, next_tree_after}
pub use Rattle.inode_table.specs.Dirs.{Counts, Covers, DirPins, Homes, IsAncestor, IsTable, MayCome, MayGo, MayMove, Reaches, RefusesLeaves, DirTable, count_of, is_known, leaves_of, one_less, one_more, or_whole}
pub use Rattle.inode_table.specs.Numbers.{Supply}
pub use Rattle.inode_table.specs.Order.{trees_after}
pub use Rattle.inode_table.specs.TreeChanges.{KeepLeaves, MayAdd, MayRemove, MaySet}
pub use Rattle.inode_table.specs.TreeTable.{IsCounted, IsTabled, counts_moved, home_at, with_count, with_home, with_dir_pin, without_cover, without_home, without_row}
pub use Rattle.inode_table.specs.declared.dirs.Home.{Home}
pub use Rattle.mdcache.specs.Batches.{AreOfOtherLeaves, CommitsWhole, IsAsItWas, IsBegunAt, IsReadied, IsReadyWrite, IsUncleanAt, IsSavedNow, LeavesOtherLeaves, MayNotBeginAll, MayNotBeginOne, MayNotCommit, NotAmong, leaves_of_places, leaves_of_jobs, leaves_of_writes, ready_of}
pub use Rattle.mdcache.specs.CacheReads.{IsNewestOf, LacksPlacesIn}
pub use Rattle.mdcache.specs.Changes.{Alters, IsAsItStands, IsNamed, Makes, PutsThen, TakesThen, dirtied, first_leaf, housed, just_made, leaves_in, noted_change, object_texts_of, rows_but, with_directory, with_home_at, with_name, with_new, with_objects, without_directory, without_gone_dir, without_leaves}
pub use Rattle.mdcache.specs.Changing.{ChangesTree, IsChangedBy}
pub use Rattle.mdcache.specs.Commits.{Begins, BeginsUnsaved, Drops, EndsJobOf, HasSpelled, IsAtEnd, IsDropped, IsEnded, MayNotBeginJob, committed, job_for, names_then, stored_with, told_of_commit, with_job}
pub use Rattle.mdcache.specs.Core.{AllCachedIn, Core, IsCachedIn, IsJobOf, IsNoLess, IsSoundCore, LacksPlacesAt, MayFetch, ReadsCore, Rooms, made_frag, named, pinned, shown_in, shows, state_of, used_core, with_entry_counted, with_job_in, without_dir, without_entry, without_frags}
pub use Rattle.mdcache.specs.Flushed.{AreExact, ArePurged, BegunAreAtHand, BegunLeaveAtHand, EndedAreClean, FlushedIsCold, HasFragment, IsAtHand, IsFlushed, KeepsTree, OthersStayAtHand, PurgedAreExact, PurgedAreFlushed, StepsKeepTree}
pub use Rattle.mdcache.specs.Frags.{KeepsState}
pub use Rattle.mdcache.specs.Given.{GivenOverIsRight, HaveNoJobs, IsGivenOver}
pub use Rattle.mdcache.specs.Joining.{HasJoined, IsAmong, IsAmongOr, name_joined}
pub use Rattle.mdcache.specs.Made.{ChangesAreRight, HasNumber, IsRightChange, IsUntouched, StaysAsItIs}
pub use Rattle.mdcache.specs.Mounted.{AreNumbers, IsMounted, IsNewTree, mounted}
pub use Rattle.mdcache.specs.New.{cached_root, new_caches, new_root, new_tree_state, root_leaf}
pub use Rattle.mdcache.specs.Objects.{Purges, PurgesName, SavesTree, purged, tree_object, tree_saved, with_tree_at}
pub use Rattle.mdcache.specs.Pages.{Gathered, IsBeyond, IsPageOf, TakesRow, rows_gathered}
pub use Rattle.mdcache.specs.PurgeList.{Listed, first_name}
pub use Rattle.mdcache.specs.Ranks.{EndsWith, IsNamedIn, KeepsOnlyAt, MayHold}
pub use Rattle.mdcache.specs.Reads.{MayNotFind, has_none}
pub use Rattle.mdcache.specs.Ready.{LacksNumbers, MayNotBeReady}
pub use Rattle.mdcache.specs.Regrouping.{IsJoined, IsMergeReady, IsSplitReady, ending_at, merged_in, split_in}
pub use Rattle.mdcache.specs.Regroups.{LacksCounts, MayNotRegroup}
pub use Rattle.mdcache.specs.SavedTrees.{HasTree, HasTrees, IsAsBefore, SavesTrees}
pub use Rattle.mdcache.specs.Shown.{directories, dentries_in, entries_of, entries_under, names_of, shown_at, shown_tree}
pub use Rattle.mdcache.specs.Sound.{AreYoung, IsOf, HasOwner, IsSound, IsStandingJob, IsUnsaved}
pub use Rattle.mdcache.specs.Splits.{Comes, HasUnsaved, IsConcerned, IsListedAnew, IsMergedInto, IsNewLeaf, IsRegrouped, IsSplitInto, MergesAreRight, NameChildren, SplitsAreRight, are_empty, regrouped, without_objects}
pub use Rattle.mdcache.specs.SplitsAndMerges.{merged_leaves}
pub use Rattle.mdcache.specs.StandingJobs.{Finds, IsNextJob, Jobs, NoneHasNumber, JobTable, is_behind}
pub use Rattle.mdcache.specs.State.{IsLive, State, UnsavedLeaves, text_of, tree_text}
pub use Rattle.mdcache.specs.declared.batches.Begun.{Begun}
pub use Rattle.mdcache.specs.declared.batches.Ready.{Ready}
pub use Rattle.mdcache.specs.declared.merging.Merge.{Merge}
pub use Rattle.mdcache.specs.declared.splitting.Split.{Split}
pub use Rattle.mds_types.proofs.DirectoryLaws.{entry_stands}
pub use Rattle.mds_types.proofs.EntryLaws.{stands_after_removal}
pub use Rattle.mds_types.proofs.EntrySearch.{not_found_below}
pub use Rattle.mds_types.proofs.Fragments.{child_is_fragment, span-split}
pub use Rattle.mds_types.proofs.LeafLaws.{leaf-exact}
pub use Rattle.mds_types.proofs.ListingLaws.{names_are_listed, tied_dentry}
pub use Rattle.mds_types.proofs.ObjectTextLaws.{texts_differ}
pub use Rattle.mds_types.proofs.OrderLaws.{dentry-total}
pub use Rattle.mds_types.specs.Frag.{Contains as Holds, ContainsFragment, Fragment, IsFragment, child_of, root_fragment, span}
pub use Rattle.mds_types.specs.Leaf.{leaf_cmp, leaf_of}
pub use Rattle.mds_types.specs.OrderLaws.{dentry-exact}
pub use Rattle.mds_types.specs.Step.{HasSpace, IsMove, is_after, names_after, with_moved}
pub use Rattle.mds_types.specs.Tree.{IsWellFormed, NothingIn, Tree, dentry_cmp, dentry_of, is_dir_kind, is_directory}
pub use Rattle.mds_types.specs.declared.dentries.Dentry.{Dentry}
pub use Rattle.mds_types.specs.declared.dirfrags.Dirfrag.{Dirfrag}
pub use Rattle.mds_types.specs.declared.ids.Ino.{Ino}
pub use Rattle.mds_types.specs.declared.ids.Rank.{Rank}
pub use Rattle.mds_types.specs.declared.inodes.Inode.{Inode}
pub use Rattle.mds_types.specs.declared.object_names.ObjName.{ObjName}
pub use Rattle.mds_types.specs.declared.object_names.ObjName.TheVariants.{Frag}
pub use Rattle.mds_types.specs.declared.refusals.Refusal.{Refusal}
pub use Rattle.mds_types.specs.declared.refusals.Refusal.TheVariants.{BadSplit, Damaged, Frozen, InboxEmpty, InboxFull, JobOutstanding, NoInodes, NoMemory, NoSuchFrag, NotAuthority, NotClean, NothingToEvict, Pinned, StaleJob, StoreFault, TooManyFrags, Trimmed, WrongExportState}
pub use Rattle.namehash.specs.Rjenkins.{hash_of}
pub use Rattle.namespace_ops.proofs.Shapes.{Shape, is_adds, is_moves, is_removes, is_sets, shape_of}
pub use Rattle.namespace_ops.proofs.Shapes.Shape.{add, move, remove, set}
pub use Rattle.namespace_ops.specs.Changes.{IsDentryLeaf, MayChange, adds, changed, dentry_at, directory_at, fragments_of, in_directory, leaves, leaves_gone, moves, removes, sets}
pub use Rattle.namespace_ops.specs.Kept.{ChangesOnly}
pub use Rattle.namespace_ops.specs.declared.plans.Change.{Change}
pub use Rattle.namespace_ops.specs.declared.plans.Spot.{Spot}
pub use Rattle.objstore.proofs.WriteLaws.{applied-by-parts, overlaid-empty}
pub use Rattle.objstore.specs.Objects.{MayRefuse, NameList, Objects, faults_in, faults_told, first_names, header_at, page_at, written}
pub use Rattle.objstore.specs.Omap.{Keys, Omap, PairMap, PairPage, empty_omap, key_cmp, page_of}
pub use Rattle.objstore.specs.declared.write_ops.WriteOp.{WriteOp}
pub use Rattle.rayon.specs.Lists.{min_len_base, vec_items}
pub use Rattle.sorted_map.proofs.Bools.{both_of, left_of, right_of}
pub use Rattle.sorted_map.proofs.Filters.{all_kept}
pub use Rattle.sorted_map.proofs.MapLaws.{get-without_keys, tie}
pub use Rattle.sorted_map.proofs.NatKeys.{get_left as get_left_home, is_apart, is_same, same_or_apart}
pub use Rattle.sorted_map.proofs.OverlayLaws.{none_entries}
pub use Rattle.sorted_map.proofs.PlaceLaws.{gap_behind, less, put_at, put_gap, searched, turned}
pub use Rattle.sorted_map.specs.Overlay.{without_keys}
pub use Rattle.sorted_map.specs.Places.{IsKeyAt, IsGap, puts}
pub use Rattle.sorted_map.specs.SortedMap.{contents}
pub use Rattle.std.proofs.Common.{Bool, Bor, Equal, Err, Greater, Less, List, None, Ok, Option, Ordering, Some, T, [], ap, append_assoc, arith, cond, drop, drop-cons, drop_of_length-le, false, filter, get_or, get_or-set_same, inl, inr, insert, is_gt, is_lt, length, length-append, map as list_map, not, refl, rules, slice_index_or, subst, suc, sym, take, true, zero, ℕ, ⊎_elim, ◌%◌, ◌&&◌, ◌*◌, ◌++◌, ◌+◌, ◌-◌, ◌/◌, ◌<◌, ◌^◌, ◌||◌, ◌∙◌, ◌∷◌, ◌≡◌, ◌≢◌, ◌≤◌, ◌⊎◌}
pub use Rattle.std.proofs.Math.Nat.{mul-le-mul_right}
pub use Rattle.std.proofs.Math.Pow.{pow-lt}
pub use Rattle.std.proofs.lemmas.Bool.{and_from, and_parts, and_right, cases_Bool, cond_both, eq-eqb, eqb-true, false_from_ne_true, lt-ltb, ltb-false, ltb-true, not-false, not-true, or_cases, or_left, or_right, true_from_ne_false}
pub use Rattle.std.proofs.lemmas.Bool.Decides.{nat_tests}
pub use Rattle.std.proofs.lemmas.Fn.{always_returns_same}
pub use Rattle.std.proofs.lemmas.List.{drop_more, length-set, length-take, map-append, map_push, nil_from_length, take-append-drop, take_all}
pub use Rattle.std.proofs.lemmas.List.Edits.{length-insert}
pub use Rattle.std.proofs.lemmas.List.Folds.{list_any-append}
pub use Rattle.std.proofs.lemmas.List.Elements.{All-contains, All-contains_itself, All-filter, All-from_recursion, Contains-append_left, Contains-get_or, Contains-push, Contains-push_cases, filter-append, filter_passes, recursion_from_All}
pub use Rattle.std.proofs.lemmas.Map.Keys.{IsDistinct-cons, IsDistinct-head, IsDistinct-tail}
pub use Rattle.std.proofs.lemmas.Map.Lookups.{exact_bytes}
pub use Rattle.std.proofs.lemmas.Map.Views.{Contains-from_any, list_any-from_Contains}
pub use Rattle.std.proofs.lemmas.Option.{cond_some, same_Some, slice_get_read}
pub use Rattle.std.proofs.lemmas.Result.{IfErr-weaker, IfOk-weaker, on_err_weaker, on_ok_weaker}
pub use Rattle.std.proofs.lemmas.Slice.Eq.{bytes_eq-Decides}
pub use Rattle.std.specs.Cmp.{IsTotalOrder, both_ways, tied_itself, unsigned_tied}
pub use Rattle.std.specs.Cmp.Lexicographic.{nat_list_cmp_total, pointwise}
pub use Rattle.std.specs.FinMap.{contains_key-keys, empty_of_len, entries_sorted, find, get-empty, get-entries, get-from_entries, get-insert, get-remove, is_sorted, len-empty, len-entries, len-remove, same_map}
pub use Rattle.std.specs.FinMap.Entries.{below_all, by_order, find-put, find-where_key, is_sorted-put, is_sorted-where_key, put, same_entries, where_key}
pub use Rattle.std.specs.List.{AllByRecursion, AllZip, Contains, IsDistinct, list_all, list_any, take-map}
pub use Rattle.std.specs.Option.{option_copied, option_map, option_or, unwrap_or}
pub use Rattle.std.specs.Ordering.{eq_by_cmp, is_eq, nat_cmp, ordering_reverse}
pub use Rattle.std.specs.Prelude.{IfErr, IfOk, IfSome, IsSome, IsSomeAnd, IsTrue, MatchOption, MatchResult, OnErr, OnOk, Result, is_some, map as each, nat_lt, replicate, slice_get, ◌==◌, ◌↔◌}
pub use Rattle.std.specs.Result.{result_err}
pub use Rattle.std.specs.Vec.Iter.{into_iter_items, into_iter_len}
pub use Rattle.std.specs.declared.vec.Vec.{Vec}
