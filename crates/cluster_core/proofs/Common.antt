-- Names of other crates, and of this one's definitions, as the proofs of this crate take them.
pub use Rattle.cached_frag.specs.Cached.{Cached}
pub use Rattle.cached_frag.specs.declared.jobs.Job.{Job}
pub use Rattle.cluster_core.specs.Administers.{Administers, AdministersTree, BeginsAt, BeginsCommit, EvictsOne, HoldsInside, IsAnyPinned, IsUnseen, Merges, MergesLeaves, Splits, SplitsLeaf, told_nothing, told_job}
pub use Rattle.cluster_core.specs.Asked.{AreLocatedIn, IsAsked, IsNewTo, IsSessionOf, MayApply}
pub use Rattle.cluster_core.specs.Commits.{JobsKeepObjects, JobsTakeWhatIsShown}
pub use Rattle.cluster_core.specs.Exporting.{CancelsAt, Exports, FinishesIn, FreezesIn, HasPinnedUnder, ImportsExport, IsUnseenStep, KeepsTreeAndRoots, PrepsIn, SendsExport, StartsIn}
pub use Rattle.cluster_core.specs.Flush.{KeepsCore}
pub use Rattle.cluster_core.specs.Fragments.{LieAtHolder}
pub use Rattle.cluster_core.specs.Grants.{AreHeldAmong, AreThawedEach, FindsNone, GrantsFirst, GrantsWaiting, HoldsOne, IsGranted, IsOneFrozen, with_grants}
pub use Rattle.cluster_core.specs.Master.{AreMastersThere, IsAtHolder, IsAuthority, IsCheckedIn, IsFrozenAt, IsHolder, IsMaster, IsMasterIn, LacksOneOf, MayTouch, MayTouchAll, MayTouchEach, MustWait, grant_of, leaf_at, main_leaf, would_change}
pub use Rattle.cluster_core.specs.Mounted.{MountsCore}
pub use Rattle.cluster_core.specs.Offer.{after_taking}
pub use Rattle.cluster_core.specs.Pins.{HasPin, inherited, own}
pub use Rattle.cluster_core.specs.Prepared.{IsPrepared, WhyUnprepared}
pub use Rattle.cluster_core.specs.Proposal.{IsAwayTo, IsFirstAway, IsFirstKindOf, IsFirstStep, IsIdle, IsLarge, IsLeast, IsNextStep, IsOfPinned, IsOwnStep, IsProposable, IsProposal, IsRootAt, Kind, OfExport, OfLarge, OfPin, OfSmall, Proposes, Sight, Would, WouldNot, kinds, lesser_candidate, sight, sight_of}
pub use Rattle.cluster_core.specs.OneThread.{Agree, InOrder, IsAskedFor, IsHeld, IsOneThread, IsOneThreadThroughout, IsSent, NoneTwice, Stand, StandsInHistory, arrival, arrivals, first_places, receipt_of, receipts_of, waiting_in}
pub use Rattle.cluster_core.proofs.Records.{AddsAtServe, AddsTo, IsOfHistory, Records}
pub use Rattle.cluster_core.specs.Runs.{IsRun, Runs, StepsBook}
pub use Rattle.cluster_core.specs.Opening.{IsGiven, IsLawfulFrom, IsLegalFrom, IsNextFrom, IsUsedFrom, Opening, after_from, fresh, since}
pub use Rattle.cluster_core.specs.Serve.{AppliesRequest, AtFront, CarryLeaves, FollowPlanned, ForwardsTo, HasLeft, IsApplied, IsDeferred, IsForwarded, IsLeft, IsNoted, IsRepeated, IsTakenOut, LeavesRefused, MakesPlanned, RefusesRequest, Repeats, Replies, ServesInbox, ServesRequest, entry_of, number_taken, outcome_of, went_with, with_entry, without_gone, without_request}
pub use Rattle.cluster_core.specs.Settled.{AreSettled, IsAway, IsCalm, IsCalmIn, IsCalmOp, HasSettled, KeepsSettled}
pub use Rattle.cluster_core.specs.Sound.{AreCached, AreExported, AreRanks, AreSupplied, IsFresh, IsSound, IsSoundBehind, IsSoundBook, IsSoundKept, IsSoundWith, IsSupplied, StandsBehind}
pub use Rattle.cluster_core.specs.State.{BookState, Core, KeptState, State, cluster_of, core_of, new_state, no_supply, places_of, shown, state_of, supply_of, whole_of, whole_supplies, with_sessions}
pub use Rattle.cluster_core.specs.Steps.{ArrivesAt, Does, TreeMayRefuse, Steps}
pub use Rattle.cluster_core.specs.Uses.{Asks, ChangesOp, ReadsOp, UsesApplied, UsesFront, UsesRequest, UsesStep}
pub use Rattle.cluster_core.specs.declared.applying.Prepared.{Prepared}
pub use Rattle.cluster_core.specs.declared.events.Answer.{Answer}
pub use Rattle.cluster_core.specs.declared.events.Answer.TheVariants.{Deferred, Forwarded, Nothing, Reply, Sent}
pub use Rattle.cluster_core.specs.declared.events.Event.{Event}
pub use Rattle.cluster_core.specs.declared.events.Event.TheVariants.{Arrive, Cancel, CommitBegin, CommitDrop, CommitEnd, CommitTree, Evict, Finish, Freeze, Grant, Import, Merge, Prep, Purge, Send, Serve, Split, Start}
pub use Rattle.cluster_core.specs.declared.receipts.Receipt.{Receipt}
pub use Rattle.dentry_cache.proofs.FrameLaws.{came_ranks, came_weaker}
pub use Rattle.dentry_cache.proofs.ReadsLaws.{here_is, reads_then, reads_weaker}
pub use Rattle.dentry_cache.proofs.UncleanLaws.{get_unclean}
pub use Rattle.dentry_cache.specs.Cache.{HasCached, Unsaved, unsaved_of}
pub use Rattle.dentry_cache.specs.CacheMap.{AreCaches, At, CacheMap, lies_by, at_rank, here, no_caches, order, unsaved_at}
pub use Rattle.dentry_cache.specs.Came.{Came, NoneEnds}
pub use Rattle.dentry_cache.specs.Came.Came.{stays}
pub use Rattle.dentry_cache.specs.Candidates.{IsBehind, IsLargeIn, IsNextLeaf, IsSmallIn, child, sizes_at}
pub use Rattle.dentry_cache.specs.Loading.{object_of}
pub use Rattle.dirfrag_codec.specs.EntryRecord.{IsRankNumber}
pub use Rattle.export_steps.specs.ByExporter.{IsNextOf}
pub use Rattle.export_steps.specs.Holder.{IsFrozen, holding}
pub use Rattle.export_steps.specs.Standing.{Standing}
pub use Rattle.export_steps.specs.declared.exports.ExportState.{ExportState}
pub use Rattle.export_steps.specs.declared.exports.StandingExport.{StandingExport}
pub use Rattle.fragtree.proofs.Counted.{Counts, all_counted, first_counted, next_counted}
pub use Rattle.fragtree.proofs.Ranges.{Contains-from_range, ends_low, range_from_Contains, span_pos}
pub use Rattle.fragtree.proofs.Tilings.{between}
pub use Rattle.fragtree.proofs.TreeLaws.{pick_from_leaf}
pub use Rattle.fragtree.specs.FragTree.{CanMerge, CanSplit, HasLeaf, IsChild, IsPick, IsTree, RefusesMerge, RefusesSplit, leaves_inside, lies_inside}
pub use Rattle.inboxes.specs.Inbox.{rotated}
pub use Rattle.inboxes.specs.Inboxes.{Arrives, Inboxes, TakesAt, first_waiting, waiting_at, with_last, with_waiting}
pub use Rattle.inboxes.specs.Pins.{is_on, is_same_grant}
pub use Rattle.inboxes.specs.declared.pins.Pin.{Pin}
pub use Rattle.inode_table.proofs.Chains.{climbed, nearer}
pub use Rattle.inode_table.proofs.TableLaws.{known_is}
pub use Rattle.inode_table.proofs.Tables.{tree_of_row}
pub use Rattle.inode_table.specs.Dirs.{Covers, DirPins, Homes, IsLive, IsTable, is_known, leaves_of, or_whole}
pub use Rattle.inode_table.specs.Numbers.{IsSupply, Supply, end_number, first_number, offer}
pub use Rattle.inode_table.specs.Pinned.{IsAfter, IsNextPinned}
pub use Rattle.inode_table.specs.TreeChanges.{KeepLeaves}
pub use Rattle.inode_table.specs.TreeTable.{HoldsPins, IsTabled}
pub use Rattle.inode_table.specs.declared.dirs.Home.{Home}
pub use Rattle.mdcache.proofs.CountLaws.{begun_free, leaves_free}
pub use Rattle.mdcache.proofs.FragsLaws.{keeps_itself, keeps_refused, refused_so}
pub use Rattle.mdcache.proofs.MountLaws.{IsIn, get_entry}
pub use Rattle.mdcache.proofs.NewLaws.{new_tree}
pub use Rattle.mdcache.proofs.StandingObjects.{ObjectsStay, begun_objects, dropped_objects, ended_object, made_objects, purged_object, regrouped_objects, same_state, saved_object}
pub use Rattle.mdcache.specs.Changes.{PutsThen, TakesThen, housed, with_directory, with_new, without_gone_dir}
pub use Rattle.mdcache.specs.Commits.{BeginsUnsaved, Drops, EndsJobOf}
pub use Rattle.mdcache.specs.Core.{LacksPlacesAt, shown_in}
pub use Rattle.mdcache.specs.Flushed.{HasFragment}
pub use Rattle.mdcache.specs.Made.{IsUntouched}
pub use Rattle.mdcache.specs.Mounted.{AreNumbers, IsOfRank, Mounts}
pub use Rattle.mdcache.specs.New.{new_caches, root_leaf}
pub use Rattle.mdcache.specs.Objects.{Purges, PurgesName, SavesTree}
pub use Rattle.mdcache.specs.PurgeList.{first_name}
pub use Rattle.mdcache.specs.Shown.{shown_at, shown_tree}
pub use Rattle.mdcache.specs.Splits.{IsMergedInto, IsSplitInto}
pub use Rattle.mds_types.proofs.DirectoryLaws.{StandsAs, directory_stands, entry_stands}
pub use Rattle.mds_types.proofs.EntryLaws.{stands_after_put, stands_after_removal}
pub use Rattle.mds_types.proofs.Fragments.{span-split}
pub use Rattle.mds_types.proofs.HistoryLaws.{after-push, legal-push, used-push}
pub use Rattle.mds_types.proofs.LeafLaws.{get_beside, get_put, leaf-exact, leaf-total, leaf_itself, one_leaf}
pub use Rattle.mds_types.proofs.OrderLaws.{dentry-total}
pub use Rattle.mds_types.proofs.StepLaws.{errno_of_any_number, unused}
pub use Rattle.mds_types.proofs.TreeLaws.{entries-empty}
pub use Rattle.mds_types.proofs.UsedLaws.{numbers_used}
pub use Rattle.mds_types.specs.Frag.{Fragment, IsFragment, child_of, frag_cmp, root_fragment, span}
pub use Rattle.mds_types.specs.History.{IsKeptAt, IsLawful, IsNew, IsTrimmed, IsUsed, after}
pub use Rattle.mds_types.specs.InodeLaws.{inode_decides}
pub use Rattle.mds_types.specs.Leaf.{Leaf, leaf_cmp, leaf_of}
pub use Rattle.mds_types.specs.Outcomes.{is_errno}
pub use Rattle.mds_types.specs.Shape.{Lists, Looks, Makes, Moves, Removes, Sets, Shape, Unlinks, destination_in, destination_of, directory_in, main_in, shape}
pub use Rattle.mds_types.specs.Step.{Outcome, altered_at, answers, dir_removed, done_in, full_errno, looked, made, new_inode, number_or, removal_errno, size_errno, step, step_in, unless, unlinked, with_attributes}
pub use Rattle.mds_types.specs.Tree.{IsUnused, Tree, dentry_cmp, dentry_of, is_dir_kind, is_directory, numbers}
pub use Rattle.mds_types.specs.declared.dentries.Dentry.{Dentry}
pub use Rattle.mds_types.specs.declared.dirfrags.Dirfrag.{Dirfrag}
pub use Rattle.mds_types.specs.declared.entries.Entry.{Entry}
pub use Rattle.mds_types.specs.declared.ids.Ino.{Ino}
pub use Rattle.mds_types.specs.declared.ids.Rank.{Rank}
pub use Rattle.mds_types.specs.declared.inodes.Alteration.TheVariants.{Attributed, Pinned}
pub use Rattle.mds_types.specs.declared.inodes.Attributes.{Attributes}
pub use Rattle.mds_types.specs.declared.inodes.Inode.{Inode}
pub use Rattle.mds_types.specs.declared.operations.Op.{Op}
pub use Rattle.mds_types.specs.declared.refusals.Refusal.{Refusal}
pub use Rattle.mds_types.specs.declared.refusals.Refusal.TheVariants.{Frozen, InboxEmpty, InboxFull, NoInodes, NoMemory, NotAuthority, Trimmed}
pub use Rattle.mds_types.specs.declared.replies.Reply.TheVariants.{Errno}
pub use Rattle.mds_types.specs.declared.requests.Request.{Request}
pub use Rattle.namespace_ops.proofs.ChangedLaws.{fragments_are}
pub use Rattle.namespace_ops.proofs.Members.{first, first_or_later, later, none_in}
pub use Rattle.namespace_ops.proofs.PickLaws.{picked}
pub use Rattle.namespace_ops.proofs.PlanParts.{may_change, numbered_so}
pub use Rattle.namespace_ops.specs.ChangedFragments.{NamesOnce, changed_fragments, fragment_of, leaves_at, touched, touched_in}
pub use Rattle.namespace_ops.specs.Changes.{Carries, Concerns, IsChangeIn, IsChangeOf, IsOffered, dentry_at, directory_at, directory_gone, fragments_in, in_directory, is_idle, leaf_put, leaf_taken, leaves_gone, stays_in}
pub use Rattle.namespace_ops.specs.Checked.{Checks, IsChecked}
pub use Rattle.namespace_ops.specs.Kept.{ChangesOnly}
pub use Rattle.namespace_ops.specs.Picks.{pick_of}
pub use Rattle.namespace_ops.specs.Places.{AreLocated, IsAt, Locates, hash_at, main_hash}
pub use Rattle.namespace_ops.specs.Planned.{IsOneOf, after_plan}
pub use Rattle.namespace_ops.specs.Reasons.{IsOfFragments}
pub use Rattle.namespace_ops.specs.Served.{LacksNumber}
pub use Rattle.namespace_ops.specs.declared.locating.Located.{Located}
pub use Rattle.namespace_ops.specs.declared.plans.Change.{Change}
pub use Rattle.namespace_ops.specs.declared.plans.Checked.{Checked}
pub use Rattle.namespace_ops.specs.declared.plans.Checked.TheVariants.{Answers}
pub use Rattle.namespace_ops.specs.declared.plans.Spot.{Spot}
pub use Rattle.objstore.specs.Objects.{Objects, faults_in}
pub use Rattle.ranked_tree.proofs.AskLaws.{held_still, ranked_later}
pub use Rattle.ranked_tree.proofs.FragsLaws.{because, where_refused}
pub use Rattle.ranked_tree.proofs.HeldRegroups.{merge_on, split_on}
pub use Rattle.ranked_tree.proofs.InsideLaws.{Done, is_within, of_all, walk_ends, walk_goes, walk_on, walk_starts}
pub use Rattle.ranked_tree.proofs.Kept.{keeps_same, keeps_tables}
pub use Rattle.ranked_tree.proofs.MountedRoots.{top_of_none}
pub use Rattle.ranked_tree.proofs.NewLaws.{new_are_roots}
pub use Rattle.ranked_tree.proofs.ReadsForLaws.{change_concerns, keeps_ranked_on}
pub use Rattle.ranked_tree.proofs.StandLaws.{none_stand, thawed_rules}
pub use Rattle.ranked_tree.proofs.Stays.{AllStay, TablesStay, begun, dropped, ended, purged, same_tables, saved}
pub use Rattle.ranked_tree.proofs.SubtreeLaws.{children_have, over, takes_over}
pub use Rattle.ranked_tree.specs.Changing.{IsChangedHeld}
pub use Rattle.ranked_tree.specs.Exported.{IsUnder}
pub use Rattle.ranked_tree.specs.Held.{AreHeld, AsksFor, IsGone, IsOwned, LacksPlacesAsked, LacksPlacesFor, LacksPlacesInside, NamesDir}
pub use Rattle.ranked_tree.specs.Importing.{Imports, LeavesCaches, RefusesImport}
pub use Rattle.ranked_tree.specs.Mounted.{AreTopRoots}
pub use Rattle.ranked_tree.specs.Ranked.{KeepsRanked, Ranked, held_roots}
pub use Rattle.ranked_tree.specs.Sending.{Sends}
pub use Rattle.ranked_tree.specs.Subtrees.{AllHave, AreRoots, HoldsAt, KeepsAuthorities, KeepsHolders, KeepsRoots, LoseDirectory, Rules, SettleBy}
pub use Rattle.sessions.proofs.AsideLaws.{aside_none, aside_push, forgot_all}
pub use Rattle.sessions.proofs.TableLaws.{table-none, table-push}
pub use Rattle.sessions.specs.Aside.{AreSetAside, StopsForgetting, forget_all}
pub use Rattle.sessions.specs.Rooms.{table}
pub use Rattle.sessions.specs.Table.{IsTableOf, Table, no_table, noted, trimmed}
pub use Rattle.sorted_map.proofs.MapLaws.{entries-contents}
pub use Rattle.sorted_map.proofs.NatKeys.{is_same, same_or_apart}
pub use Rattle.sorted_map.specs.SortedMap.{contents}
pub use Rattle.std.proofs.Common.{Bool, Err, IfSome, IsSome, IsTrue, List, MatchBool, MatchOption, None, Ok, Option, Result, Some, [], ap, append_assoc, ap₂, arith, cond, drop, eq-eqb, eqb, false, get_or, inl, inr, length, map, nat_lt, not, refl, replicate, rules, set, subst, suc, sym, take, true, vec_capacity, vec_len, zero, ℕ, ⊎_elim, ◌%◌, ◌&&◌, ◌*◌, ◌++◌, ◌+◌, ◌-◌, ◌<◌, ◌==◌, ◌^◌, ◌||◌, ◌↔◌, ◌∙◌, ◌∷◌, ◌≡◌, ◌≢◌, ◌≤◌, ◌⊎◌}
pub use Rattle.std.proofs.Math.Nat.{mod-eq_of_lt, mul-le-mul_left}
pub use Rattle.std.proofs.Math.Seq.{get_or-append_seam}
pub use Rattle.std.proofs.lemmas.Bool.{and_parts, cases_lt, eqb-false, eqb-true, false_from_ne_true, ltb-false, ltb-true, not-true, or_right, true≢false}
pub use Rattle.std.proofs.lemmas.Bool.Decides.{nat_tests}
pub use Rattle.std.proofs.lemmas.Cmp.{ranked}
pub use Rattle.std.proofs.lemmas.List.{append-nil, drop_all, drop_more, get_or-set_other, get_or-set_same, get_or_append_left, length-append, length-drop, length-replicate, length-set, set-get_or, take_all, take_more}
pub use Rattle.std.proofs.lemmas.List.Elements.{Contains-get_or}
pub use Rattle.std.proofs.lemmas.Option.{same_Some}
pub use Rattle.std.specs.Cmp.{nat_cmp_total, tied_itself}
pub use Rattle.std.specs.FinMap.{empty_of_len, get-empty, len-empty}
pub use Rattle.std.specs.List.{Contains, list_any, slice_index_or}
pub use Rattle.std.specs.Ordering.{MatchOrdering, is_lt, nat_cmp, ordering_reverse, ordering_then}
pub use Rattle.std.specs.Prelude.{IsErr, IsErrAnd, OnErr, is_none, is_some, option_map, slice_get}
pub use Rattle.std.specs.Vec.Iter.{into_iter_items, into_iter_len}
pub use Rattle.std.specs.declared.cmp.Ordering.{Ordering}
pub use Rattle.std.specs.declared.cmp.Ordering.TheVariants.{Equal, Greater, Less}
pub use Rattle.subtree_map.proofs.Covers.{contains_start, is_fragment, some_inside}
pub use Rattle.subtree_map.proofs.Merged.{elsewhere_out, here_out, inside_at}
pub use Rattle.subtree_map.proofs.Nearest.{one_authority, some_authority}
pub use Rattle.subtree_map.proofs.Options.{not_none, one_value}
pub use Rattle.subtree_map.specs.Authority.{HasAuthority, IsSubtrees, NearestRoot, Roots, itself}
pub use Rattle.subtree_map.specs.Changes.{HaveOneAuthority, IsRootMerge, IsRootSplit, Subtrees, is_inside}
pub use Rattle.subtree_map.specs.Lists.{is_leaf_after}
pub use Rattle.subtree_map.specs.Rows.{IsFirst}
