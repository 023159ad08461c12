-- Names of other crates, and of this one's definitions, as the proofs of this crate take them.
pub use Rattle.cached_frag.specs.Cached.{Cached, is_clean}
pub use Rattle.cached_frag.specs.Rows.{NamedInode}
pub use Rattle.cached_frag.specs.declared.bases.Base.{Base}
pub use Rattle.cached_frag.specs.declared.bases.Base.TheVariants.{Fresh, Stored}
pub use Rattle.cached_frag.specs.declared.jobs.Job.{Job}
pub use Rattle.dentry_cache.proofs.FrameLaws.{came_cap, came_held, came_ranks, came_then, came_weaker}
pub use Rattle.dentry_cache.proofs.HandedLaws.{handed_where, wants_from}
pub use Rattle.dentry_cache.proofs.LeafLaws.{one_leaf}
pub use Rattle.dentry_cache.proofs.MoveLaws.{all_left_at, left_by}
pub use Rattle.dentry_cache.proofs.ReadsLaws.{here_is, reads_came, reads_then, reads_weaker}
pub use Rattle.dentry_cache.proofs.StepLaws.{get_with_frag, here_given_up, ranks_with_frag}
pub use Rattle.dentry_cache.proofs.UncleanLaws.{clean_there, get_unclean, last_passes}
pub use Rattle.dentry_cache.specs.Cache.{IsThere, Unsaved, leaf_is, unsaved_in}
pub use Rattle.dentry_cache.specs.CacheCalls.{KeepsNone, unclean_in}
pub use Rattle.dentry_cache.specs.CacheMap.{AreCaches, At, CacheMap, IsFree, lies_by, at_rank, clean_in, evicted, given_up, goes, has_place, here, no_caches, order, unclean, unclean_of, unsaved_at, victim}
pub use Rattle.dentry_cache.specs.CacheSplits.{IsFamilyAt}
pub use Rattle.dentry_cache.specs.Came.{Came, IsThat, NoneEnds}
pub use Rattle.dentry_cache.specs.Came.Came.{ends, stays}
pub use Rattle.dentry_cache.specs.Handing.{AreCleanAt, AreUncleanAt, HandsFragmentsOver, MayNotHandOver, moved_all}
pub use Rattle.dentry_cache.specs.Loading.{object_of}
pub use Rattle.dentry_cache.specs.Reads.{Reads}
pub use Rattle.dentry_cache.specs.Reads.Reads.{stays as reads_none}
pub use Rattle.dentry_cache.specs.Ties.{IsTiedAt}
pub use Rattle.dirfrag_codec.proofs.ByteKeys.{key_itself}
pub use Rattle.dirfrag_codec.specs.FragmentObject.{Names}
pub use Rattle.dirfrag_codec.specs.Values.{is_fragment}
pub use Rattle.export_bytes.specs.Export.{SpellsExport, export_bytes, is_base_of, is_frag_before, is_name_before, is_sendable, is_sent_frag, is_sent_name, rise}
pub use Rattle.export_bytes.specs.declared.exports.Export.{Export}
pub use Rattle.export_bytes.specs.declared.exports.SentFrag.{SentFrag}
pub use Rattle.export_regions.proofs.ExportLaws.{one_export}
pub use Rattle.export_regions.proofs.ManyLaws.{all_so}
pub use Rattle.export_regions.proofs.NameLaws.{how_many}
pub use Rattle.export_regions.proofs.PickLaws.{each_passes, passing_picked, picked_distinct, picked_passes}
pub use Rattle.export_regions.proofs.WhereLaws.{IsHere, here_of}
pub use Rattle.export_regions.specs.Regions.{AreCachedOf, HasTooMany, IsExportOf, IsOfRegion, RegionLeaves, UncleanLeaves, sent_of}
pub use Rattle.export_regions.specs.Sending.{AreAtTheirRank, HasVersion, HaveVersions, MayNotSend}
pub use Rattle.export_regions.specs.Spelling.{IsSpelled}
pub use Rattle.export_regions.specs.declared.spelling.Spelled.{Spelled}
pub use Rattle.export_steps.proofs.Elsewhere.{after_making, after_merge, after_move, after_removal, after_split}
pub use Rattle.export_steps.proofs.Handover.{cancels_soundly, finishes_soundly, freezes_soundly, hands_over}
pub use Rattle.export_steps.proofs.Holding.{get_holding, holder_is, imported_freezes, keep_frozen, keep_holders, near_to, valid_so}
pub use Rattle.export_steps.proofs.HoldingSteps.{cancel_holding, finish_holding, prep_holding, prep_soundly, send_holding, send_soundly, start_holding, start_soundly}
pub use Rattle.export_steps.specs.Handover.{FreezesSoundly, HandsOver as HandsRegionOver}
pub use Rattle.export_steps.specs.Holder.{HasHolder, IsFrozen, holder_or, holding, is_imported, region_holder}
pub use Rattle.export_steps.specs.Regions.{AreFrozenRegionsKept, StandsOver}
pub use Rattle.export_steps.specs.Standing.{ArePlaced, Cancels, ComesTo, Finishes, IsFreeze, Preps, Standing, Starts, come_to, is_freezing}
pub use Rattle.export_steps.specs.declared.exports.ExportState.{ExportState}
pub use Rattle.export_steps.specs.declared.exports.ExportState.TheVariants.{Frozen, Imported, Prepared, Sent, Started}
pub use Rattle.export_steps.specs.declared.exports.StandingExport.{StandingExport}
pub use Rattle.fragtree.proofs.Ranges.{Contains-from_range, ends_before, ends_low, ends_within, lies_inside-true, range_from_Contains, range_from_inside}
pub use Rattle.fragtree.proofs.TreeLaws.{first as first_has, later as later_has, only_leaf, some_pick}
pub use Rattle.fragtree.specs.FragTree.{CanMerge, CanSplit, FitsSplit, HasLeaf, IsChild, IsMerge, IsPick, IsSplit, IsTree, RefusesMerge, RefusesSplit, leaves_inside, lies_inside}
pub use Rattle.inode_table.proofs.MoveLaws.{may_relocate, may_replace}
pub use Rattle.inode_table.proofs.TableLaws.{dir_or_not, home_of, known_is, may_come, may_drop, with_dir, with_file}
pub use Rattle.inode_table.proofs.Tables.{still_known, tree_of_row}
pub use Rattle.inode_table.specs.Dirs.{Counts, Covers, Homes, IsLeafAt, IsLive, IsTable, MayCome, MayGo, MayMove, count_of, is_known, leaves_of, or_whole}
pub use Rattle.inode_table.specs.TreeTable.{home_at, with_home}
pub use Rattle.inode_table.specs.declared.dirs.Home.{Home}
pub use Rattle.mdcache.proofs.CoreLaws.{not_found_weaker, reads_keeps, reads_state}
pub use Rattle.mdcache.proofs.CountLaws.{regroup_free}
pub use Rattle.mdcache.proofs.FragsLaws.{keeps_itself, keeps_on, keeps_refused, lacked_at, refused_later}
pub use Rattle.mdcache.proofs.GatherLaws.{gathers_listed, leaf_more}
pub use Rattle.mdcache.proofs.GoneLaws.{get_without, one_of_those}
pub use Rattle.mdcache.proofs.HomeLaws.{may_go, moved_home, moved_known, relocates, replaces}
pub use Rattle.mdcache.proofs.JoinLaws.{from_mapped}
pub use Rattle.mdcache.proofs.NamedLaws.{sound_leaves, stands_at}
pub use Rattle.mdcache.proofs.NewLaws.{live_root, new_none, no_covers, no_homes, root_live}
pub use Rattle.mdcache.proofs.NoNames.{all_pass, no_name, none_unless, some_fails, some_name}
pub use Rattle.mdcache.proofs.SplitLaws.{has_inside}
pub use Rattle.mdcache.proofs.UncleanOf.{few_lack, get_unclean_of}
pub use Rattle.mdcache.specs.Changes.{Alters, Makes, first_leaf, rows_but, with_directory, with_home_at, without_gone_dir, without_leaves}
pub use Rattle.mdcache.specs.Changing.{IsChangedBy}
pub use Rattle.mdcache.specs.Commits.{Begins, BeginsUnsaved, Drops, EndsJobOf}
pub use Rattle.mdcache.specs.Core.{Core, IsSoundCore, LacksPlacesAt, ReadsCore, shown_in, state_of}
pub use Rattle.mdcache.specs.Flushed.{HasFragment}
pub use Rattle.mdcache.specs.Frags.{KeepsState, LacksBy, LacksForIn, LacksPlacesBy, LacksPlacesOf, LacksToMake, dir_moving}
pub use Rattle.mdcache.specs.Given.{HaveNoJobs, IsGivenOver}
pub use Rattle.mdcache.specs.Joining.{IsAmongOr}
pub use Rattle.mdcache.specs.Made.{IsRightChange}
pub use Rattle.mdcache.specs.Mounted.{Mounts}
pub use Rattle.mdcache.specs.New.{cached_root, new_caches, new_tree_state, root_leaf}
pub use Rattle.mdcache.specs.Objects.{PurgesName, SavesTree}
pub use Rattle.mdcache.specs.Pages.{IsPageOf, rows_gathered}
pub use Rattle.mdcache.specs.PurgeList.{first_name}
pub use Rattle.mdcache.specs.Ranks.{AreOneRank, EndsWith, IsNamedIn, MayHold, MayHoldEach}
pub use Rattle.mdcache.specs.Reads.{MayNotFind, has_none}
pub use Rattle.mdcache.specs.Ready.{LacksNumbers, MayNotBeReady}
pub use Rattle.mdcache.specs.Regrouping.{ending_at}
pub use Rattle.mdcache.specs.Regroups.{LacksCounts, MayNotRegroup}
pub use Rattle.mdcache.specs.Shown.{names_of, shown_tree}
pub use Rattle.mdcache.specs.Sound.{IsSound}
pub use Rattle.mdcache.specs.Splits.{IsMergedInto, IsRegrouped, IsSplitInto}
pub use Rattle.mdcache.specs.SplitsAndMerges.{MergesFrags, SplitsFrag}
pub use Rattle.mdcache.specs.StandingJobs.{IsNextJob, Jobs, is_behind}
pub use Rattle.mdcache.specs.State.{State}
pub use Rattle.mds_types.proofs.DirectoryLaws.{entries_there, entry_stands}
pub use Rattle.mds_types.proofs.LeafLaws.{get_beside, get_left, get_put, get_removed, leaf-exact, leaf-total, same_or_apart}
pub use Rattle.mds_types.proofs.ListingLaws.{less_is, names_are_listed, no_entries_listed}
pub use Rattle.mds_types.specs.Frag.{Fragment, IsFragment, child_of, root_fragment, span}
pub use Rattle.mds_types.specs.Leaf.{leaf_cmp, leaf_of}
pub use Rattle.mds_types.specs.Shape.{Lists, Looks, Moves, Removes, Sets, Unlinks, shape}
pub use Rattle.mds_types.specs.Step.{names_after}
pub use Rattle.mds_types.specs.Tree.{Tree, dentry_cmp, dentry_of, has_entries, is_dir_kind, is_directory}
pub use Rattle.mds_types.specs.declared.dentries.Dentry.{Dentry}
pub use Rattle.mds_types.specs.declared.dirfrags.Dirfrag.{Dirfrag}
pub use Rattle.mds_types.specs.declared.ids.Ino.{Ino}
pub use Rattle.mds_types.specs.declared.ids.Rank.{Rank}
pub use Rattle.mds_types.specs.declared.inodes.Inode.{Inode}
pub use Rattle.mds_types.specs.declared.operations.Op.{Op}
pub use Rattle.mds_types.specs.declared.refusals.Refusal.{Refusal}
pub use Rattle.mds_types.specs.declared.refusals.Refusal.TheVariants.{NoMemory, NothingToEvict}
pub use Rattle.namehash.specs.Rjenkins.{hash_of}
pub use Rattle.namespace_ops.proofs.Members.{first, later}
pub use Rattle.namespace_ops.proofs.Shapes.{Shape, shape_of}
pub use Rattle.namespace_ops.proofs.Shapes.Shape.{add, move, remove, set}
pub use Rattle.namespace_ops.specs.Changes.{Concerns, ConcernsIn, IsChangeIn, IsChangeOf, IsSpot, MayChange, PutsAt, LosesName, adds, changed, dentry_at, directory_at, fragments_of, in_directory, leaves, leaves_gone, moves, removes, sets, taken}
pub use Rattle.namespace_ops.specs.Kept.{ReadsOnly}
pub use Rattle.namespace_ops.specs.Places.{IsAt}
pub use Rattle.namespace_ops.specs.declared.plans.Change.{Change}
pub use Rattle.namespace_ops.specs.declared.plans.Spot.{Spot}
pub use Rattle.objstore.specs.Objects.{Objects, faults_in, faults_told}
pub use Rattle.objstore.specs.Omap.{Omap, key_cmp}
pub use Rattle.ranked_tree.specs.Changing.{ChangesHeld, FollowsChange, IsChangedHeld}
pub use Rattle.ranked_tree.specs.Exported.{AreThawed, EndsInside, EndsRegion, IsDivided, IsFrozenIn, StandSoundly, held_in}
pub use Rattle.ranked_tree.specs.Held.{AreHeld, AreHeldAt, AsksFor, CameAt, ComesAt, ComesFor, ComesIn, ComesWith, IsFamilyOf, IsGone, IsMergedHere, IsOwned, LacksPlacesAsked, LacksPlacesDir, LacksPlacesFor, LacksPlacesInside, NamesBy, NamesDir, NoneComes, ReadsDir, ReadsFor, UsedAt, UsesAt, WithOffer}
pub use Rattle.ranked_tree.specs.Importing.{ComeToImporter, HandsRegion, Imports, IsRenewed, IsSpelledBy, MayNotImport, TakesRegion, imported_unsaved}
pub use Rattle.ranked_tree.specs.Mounted.{AreTopRoots}
pub use Rattle.ranked_tree.specs.Ranked.{IsFrozenLeaf, KeepsRanked, MayRefuse, Ranked, held_roots, new_roots}
pub use Rattle.ranked_tree.specs.Sending.{IsInRegionOf, RefusesSend, Sends, SpellsPrepared, SpellsRegion}
pub use Rattle.ranked_tree.specs.Subtrees.{AllHave, AreRoots, FollowChange, GivesToChildren, HoldsAt, IsInsideAt, KeepsAuthorities, KeepsHolders, KeepsOutside, KeepsRoots, LoseDirectory, NoNewRank, Rules, SettleMove, SettleMoving, TakesOver}
pub use Rattle.ranked_tree.specs.declared.regions.Regions.{Regions}
pub use Rattle.sorted_map.proofs.MapLaws.{tie}
pub use Rattle.sorted_map.proofs.NatKeys.{is_same}
pub use Rattle.sorted_map.specs.SortedMap.{contents}
pub use Rattle.std.proofs.Common.{Bool, Err, IsTrue, List, MatchBool, None, Ok, Option, Result, Some, [], ap, ap₂, arith, cond, false, inl, inr, length, nat_lt, not, option_map, refl, rules, subst, suc, sym, true, zero, ℕ, ◌%◌, ◌&&◌, ◌+◌, ◌/◌, ◌<◌, ◌==◌, ◌^◌, ◌↔◌, ◌∙◌, ◌∷◌, ◌≡◌, ◌≤◌, ◌⊎◌, ⊎_elim}
pub use Rattle.std.proofs.lemmas.Bool.{and_from, and_parts, and_right, cases_Bool, cases_lt, cond_both, eq-eqb, eqb-true, false≢true, true≢false}
pub use Rattle.std.proofs.lemmas.Bool.Decides.{nat_tests}
pub use Rattle.std.proofs.lemmas.List.{length-replicate}
pub use Rattle.std.proofs.lemmas.Option.{IfSome_then, none-some, same_Some}
pub use Rattle.std.proofs.lemmas.Result.{IfErr-weaker, IfOk-weaker, on_ok_weaker}
pub use Rattle.std.specs.Cmp.{tied_itself}
pub use Rattle.std.specs.FinMap.{empty_of_len, find, get-empty, get-entries, same_map}
pub use Rattle.std.specs.List.{Contains, IsDistinct, list_all, list_any}
pub use Rattle.std.specs.Option.{option_copied}
pub use Rattle.std.specs.Ordering.{eq_by_cmp, is_lt}
pub use Rattle.std.specs.Prelude.{IfErr, IfOk, IfSome, IsErrAnd, IsSome, MatchOption, OnErr, OnOk, is_some, take, ◌-◌, ◌||◌, ◌≢◌}
pub use Rattle.std.specs.Result.{result_err}
pub use Rattle.subtree_map.proofs.Adopted.{adopted_authority, adopted_valid}
pub use Rattle.subtree_map.proofs.Covers.{child_is_new, contains_start, leaves_now, merged_is_new, some_inside}
pub use Rattle.subtree_map.proofs.Dropped.{drops_soundly}
pub use Rattle.subtree_map.proofs.Merged.{merges_soundly}
pub use Rattle.subtree_map.proofs.Moved.{moves_soundly}
pub use Rattle.subtree_map.proofs.Nearest.{one_authority, one_holder, one_root, some_authority, some_holder}
pub use Rattle.subtree_map.proofs.Options.{not_none, one_value, value_of}
pub use Rattle.subtree_map.proofs.Split.{splits_soundly}
pub use Rattle.subtree_map.specs.Authority.{HasAuthority, HoldsDentry, IsInRegion, IsSubtrees, Leaf, NearestRoot, Roots, inherited, itself}
pub use Rattle.subtree_map.specs.Changes.{AreFilled, AreGone, BecomesMerged, BecomesSplit, HaveOneAuthority, IsRootMerge, IsRootSplit, KeepAuthority, Subtrees, is_inside}
pub use Rattle.subtree_map.specs.Moves.{IsInheritedAt, IsLostRank, KeepsRanksOf}
