-- Names of other crates, and of this one's definitions, as the proofs of this crate take them.
pub use Rattle.asking.specs.Ask.{Answers, AsksAlone, HasCome, HasComeBehind, IsAppliedFor, IsNewAtMaster, LacksNumberToServe, NoneWaits, Question, RefusesAsk, StillWaits, WaitsAlone, WhyItWaits}
pub use Rattle.asking.specs.Drain.{RoundEnds}
pub use Rattle.asking.specs.GrantsAll.{ChangesFrozen, GrantsEach, GrantsOf, GrantsSo, GrantsThem, IsGrantedFor, KeepsButGrants, WhyNotGranted}
pub use Rattle.asking.specs.Reached.{IsBroughtBy, IsStepFor, LeadsTo, receipt_in}
pub use Rattle.asking.specs.Serves.{IsOfServe, KeepsUnclean, ServesTo, SomeWaits, told_as, told_of}
pub use Rattle.cluster_core.specs.declared.receipts.Receipt.{Receipt}
pub use Rattle.asking.specs.declared.serves.Served.{Served}
pub use Rattle.asking.specs.declared.serves.Served.TheVariants.{Replied, Goes, Waits}
pub use Rattle.cluster_core.proofs.Common.{ArrivesAt, Bool, BookState, CacheMap, Contains, Core, Covers, Dentry, Entry, Err, Fragment, Frozen, GrantsFirst, GrantsWaiting, HasLeaf, InboxFull, Inboxes, Ino, Inode, InOrder, IsApplied, IsForwarded, IsFrozenAt, IsGranted, IsHolder, IsKeptAt, IsLeft, IsLive, IsNew, IsRepeated, IsSound, IsSoundBook, IsSoundKept, IsTable, IsTakenOut, IsTree, IsTrimmed, KeptState, Leaf, List, Lists, Looks, Makes, MatchBool, Moves, NoInodes, NoMemory, None, NotAuthority, Ok, Op, Option, Pin, Rank, ReadsOp, Refusal, RefusesRequest, Removes, Request, Result, Roots, Rules, ServesInbox, ServesRequest, Sets, Shape, Some, StandsBehind, State, Steps, Tree, TreeMayRefuse, Trimmed, Unlinks, UsesRequest, UsesStep, [], and_parts, ap, append-nil, arith, changed_fragments, cond, destination_in, directory_in, done_in, entry_stands, false, first, first_or_later, first_waiting, fragment_of, get_or, get_or-set_other, get_or-set_same, grant_of, in_directory, inl, inr, is_dir_kind, is_directory, is_errno, is_known, is_same_grant, is_same, known_is, later, leaves_at, leaves_of, length, length-set, list_any, main_leaf, nat_lt, none_in, not, offer, one_authority, outcome_of, pick_of, picked, places_of, refl, rules, same_or_apart, set, set-get_or, shape, shown, shown_tree, some_authority, step_in, step, subst, suc, supply_of, sym, touched, touched_in, tree_of_row, true, waiting_at, whole_of, with_grants, with_last, with_waiting, without_request, zero, ℕ, ◌&&◌, ◌++◌, ◌+◌, ◌-◌, ◌*◌, ◌<◌, ◌==◌, ◌∙◌, ◌∷◌, ◌≡◌, ◌≢◌, ◌≤◌, ◌⊎◌}
pub use Rattle.cluster_core.specs.Grants.{Grants, GrantsRequest, RefusesGrant}
pub use Rattle.cluster_core.specs.Master.{IsAuthority, IsMaster, MayTouchAll, MustWait, would_change, would_change_in}
pub use Rattle.cluster_core.specs.Runs.{Runs, StepsBook}
pub use Rattle.cluster_core.specs.OneThread.{StandsInHistory}
pub use Rattle.cluster_core.specs.Opening.{IsLawfulFrom, IsLegalFrom, IsNextFrom, IsUsedFrom, Opening, after_from, fresh}
pub use Rattle.cluster_core.specs.Serve.{IsDeferred}
pub use Rattle.cluster_core.specs.State.{held_roots}
pub use Rattle.cluster_core.specs.Steps.{LacksPlaces}
pub use Rattle.cluster_core.specs.declared.events.Answer.{Answer}
pub use Rattle.cluster_core.specs.declared.events.Answer.TheVariants.{Deferred, Forwarded, Nothing, Reply}
pub use Rattle.cluster_core.specs.declared.events.Event.{Event}
pub use Rattle.cluster_core.specs.declared.events.Event.TheVariants.{Arrive, Grant, Serve}
pub use Rattle.dentry_cache.specs.CacheMap.{unclean_of}
pub use Rattle.dentry_cache.specs.Came.{NoneEnds}
pub use Rattle.inboxes.specs.Inbox.{first_of, is_of}
pub use Rattle.inboxes.specs.Pins.{is_for, is_on, left_without, with_grant}
pub use Rattle.mdcache.proofs.UncleanOf.{reads_unclean_of}
pub use Rattle.mdcache.specs.State.{State as TreeState}
pub use Rattle.mdcache.specs.Sound.{IsSound as IsSoundTree}
pub use Rattle.fragtree.proofs.TreeLaws.{some_pick}
pub use Rattle.mds_types.specs.declared.refusals.Refusal.TheVariants.{NothingToEvict, StoreFault}
pub use Rattle.namespace_ops.specs.ChangedFragments.{moved_fragments, unless_errno}
pub use Rattle.namespace_ops.specs.Changes.{leaves}
pub use Rattle.ranked_tree.proofs.AskLaws.{leaf_live}
pub use Rattle.std.proofs.lemmas.Bool.{and_from, cond_both, lt-ltb, or_left, or_right}
pub use Rattle.std.proofs.lemmas.List.{get_or_past, set-set}
pub use Rattle.std.proofs.lemmas.List.Elements.{filter-append}
pub use Rattle.std.proofs.lemmas.List.Folds.{list_any-append}
pub use Rattle.std.specs.List.{filter, find}
pub use Rattle.std.specs.Option.{option_or}
