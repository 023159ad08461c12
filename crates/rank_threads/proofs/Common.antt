-- Names of other crates, and of this one's definitions, as the proofs of this crate take them.
pub use Rattle.cluster_core.specs.OneThread.{Agree, IsAskedFor, IsHeld, IsOneThread, IsSent, NoneTwice, Stand, StandsInHistory, arrival, first_places, receipt_of, receipts_of, waiting_in}
pub use Rattle.cluster_core.specs.Opening.{IsLawfulFrom, IsLegalFrom, IsNextFrom, IsUsedFrom, Opening, after_from, fresh}
pub use Rattle.cluster_core.specs.Sound.{IsSoundBook, IsSoundKept, StandsBehind}
pub use Rattle.cluster_core.specs.State.{BookState, KeptState, places_of, whole_of}
pub use Rattle.cluster_core.specs.declared.events.Answer.{Answer}
pub use Rattle.cluster_core.specs.declared.events.Answer.TheVariants.{Deferred, Forwarded, Job, Nothing, Reply, Sent}
pub use Rattle.cluster_core.specs.declared.events.Event.{Event}
pub use Rattle.cluster_core.specs.declared.receipts.Receipt.{Receipt}
pub use Rattle.mds_types.specs.InodeLaws.{inode_decides}
pub use Rattle.mds_types.specs.Tree.{Tree}
pub use Rattle.mds_types.specs.declared.entries.Entry.{Entry}
pub use Rattle.mds_types.specs.declared.refusals.Refusal.{Refusal}
pub use Rattle.mds_types.specs.declared.requests.Request.{Request}
pub use Rattle.rank_threads.specs.Continued.{Continues, StaysBehind}
pub use Rattle.rank_threads.specs.Sent.{EachIsSent, Serves, plan_arrivals, plans_arrivals, turn_arrival}
pub use Rattle.rank_threads.specs.Standing.{Fits, IsHeldAmong, HasEntry, StandAmong, places_marked}
pub use Rattle.rank_threads.specs.Turns.{AreAnswered, FitsTurn, PlansAnswered, first_in, firsts, firsts_of_all, receipts_of_all}
pub use Rattle.rank_threads.specs.declared.plans.Turn.{Turn}
pub use Rattle.sorted_map.proofs.Decided.{pair_decides}
pub use Rattle.std.proofs.Common.{Bool, Err, List, MatchBool, Ok, Result, [], ap, arith, cond, drop, false, get_or, length, map, nat_eq, refl, replicate, rules, set, subst, suc, sym, take, true, vec_capacity, vec_items, vec_len, zero, ℕ, ◌++◌, ◌+◌, ◌-◌, ◌<◌, ◌||◌, ◌∙◌, ◌∷◌, ◌≡◌, ◌≤◌}
pub use Rattle.std.proofs.Math.Seq.{drop-length}
pub use Rattle.std.proofs.lemmas.Bool.{false≢true}
pub use Rattle.std.proofs.lemmas.Bool.Decides.{Decides-at}
pub use Rattle.std.proofs.lemmas.List.{append-nil, drop_more, get_or-replicate, length-append, length-replicate, length-set, length-take, map-append, take-append-drop, take-append-le}
pub use Rattle.std.proofs.lemmas.Slice.Eq.{bytes_eq-Decides, slice_eq-Decides}
pub use Rattle.std.specs.List.{AllByRecursion, Contains, list_any}
pub use Rattle.std.specs.Vec.Iter.{into_iter_items, into_iter_len}
