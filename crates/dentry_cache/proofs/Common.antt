-- Names of other crates, and of this one's definitions, as the proofs of this crate take them.
pub use Rattle.cached_frag.proofs.MovedLaws.{dirty_step, entries_step, none_popped, popped_len, popped_there, shown_step}
pub use Rattle.cached_frag.proofs.ShownLaws.{nothing_shown}
pub use Rattle.cached_frag.specs.Cached.{AreEntries, Cached, imported, is_clean_over, marked, shown_names, shown_over, unsettled}
pub use Rattle.cached_frag.specs.Marks.{Marks}
pub use Rattle.cached_frag.specs.Moving.{TakesIn, marked_as, shown_as}
pub use Rattle.cached_frag.specs.Rows.{NamedInode, rows_left}
pub use Rattle.cached_frag.specs.Snap.{Snap, counts_of, next_version}
pub use Rattle.cached_frag.specs.declared.bases.Base.{Base}
pub use Rattle.cached_frag.specs.declared.bases.Base.TheVariants.{Fresh, Stored}
pub use Rattle.cached_frag.specs.declared.jobs.Job.{Job}
pub use Rattle.cached_frag.specs.declared.marks.Mark.{Mark}
pub use Rattle.dentry_cache.specs.Cache.{HasCached, HasRoom, Held, IsChanged, IsThere, IsTouched, IsWritten, Leaf, NoneGoes, Places, cached, fragment_in, held, is_kept, leaf_cmp, leaf_is, may_go, shows_in, used_as}
pub use Rattle.dentry_cache.specs.CacheCalls.{Edits, IsAbsent, IsEdited, IsRefusedAt, IsRewritten, KeepsAt, MakesRoomAt, MayNotKeepAt, Rewrites, unclean_in}
pub use Rattle.dentry_cache.specs.CacheMap.{AreAtOneRank, AreCaches, At, CacheMap, IsFreeFor, at_rank, cache_map, found, frag_at, given_up, has_place, held_of, here, less, no_cache, no_caches, order, orders, removed, rewritten, roomy, unclean, used_at, with_frag}
pub use Rattle.dentry_cache.specs.CacheSplits.{AreAbsent, AreFillable, HaveKeptPlaces, IsButPlaces, IsChildAt, IsFamilyAt, IsKeptFor, IsReadyToSplit, KeepsChildren, ReadiesAt, SplitsAt, with_parts, with_unclean, without_children}
pub use Rattle.dentry_cache.specs.Came.{Came, NoneEnds}
pub use Rattle.dentry_cache.specs.CandidateSets.{AreCandidates, AreSets, AreTold, HasRoomFor, IsBelow, IsLeafGap, IsPlaceBehind, IsResized, IsLeafSpot, MayResize, Rise, StandsAt, are_few, both, is_few, is_leaf_in, is_large, sizes_of, together}
pub use Rattle.dentry_cache.specs.Candidates.{IsBehind, IsLargeIn, IsNextLeaf, IsSmallIn, Sizes, child, entries_of_children, size_in}
pub use Rattle.dentry_cache.specs.Commits.{IsCommitted, IsCleanedOf}
pub use Rattle.dentry_cache.specs.Divided.{AreChildren, AreNumbered, AreReady, IsCachedChild, IsReadyPart, bare, names_in}
pub use Rattle.dentry_cache.specs.Fetches.{IsRefusedIn}
pub use Rattle.dentry_cache.specs.Handing.{HandsFragmentsOver, HaveNoPlace, and_kept, kept_all, moved, moved_all, moved_as, without_all}
pub use Rattle.dentry_cache.specs.Loading.{object_of}
pub use Rattle.dentry_cache.specs.Pairs.{EndsPairs, IsEndOf, added, are_good, holds, is_good, pairs_left}
pub use Rattle.dentry_cache.specs.Parting.{AreKeptApart, Each, EachThen, Grows, IsBare, Puts, is_place}
pub use Rattle.dentry_cache.specs.Places.{IsCache}
pub use Rattle.dentry_cache.specs.PlacesByUse.{in_place}
pub use Rattle.dentry_cache.specs.Reads.{Reads}
pub use Rattle.dentry_cache.specs.Reads.Reads.{frees, room, uses}
pub use Rattle.dentry_cache.specs.Standing.{AreBelow, ChangedCanEnd, StandingIsUnclean, TakenCanEnd}
pub use Rattle.dentry_cache.specs.Ties.{Keeps, names_at}
pub use Rattle.dentry_cache.specs.Unclean.{unclean_from, unclean_places}
pub use Rattle.dentry_cache.specs.declared.cache.Place.{Place}
pub use Rattle.dentry_cache.specs.declared.candidates.Candidates.{Candidates}
pub use Rattle.dentry_cache.specs.declared.loading.PageEnd.{PageEnd}
pub use Rattle.dentry_cache.specs.declared.loading.PageEnd.TheVariants.{Last, More, Off}
pub use Rattle.dentry_cache.specs.declared.parts.Part.{Part}
pub use Rattle.dirfrag_codec.proofs.ByteKeys.{get_beside, get_put, one_map, same_or_apart}
pub use Rattle.dirfrag_codec.proofs.ValueLaws.{one_key, one_reading, reads_key}
pub use Rattle.dirfrag_codec.specs.FragmentObject.{Names, SpellsKey, with_pair}
pub use Rattle.dirfrag_codec.specs.Grammar.{Decodes}
pub use Rattle.dirfrag_codec.specs.Values.{inode_of_record, name_of_key}
pub use Rattle.lru.specs.LruCache.{lru_cache, promoted}
pub use Rattle.mds_types.proofs.Fragments.{span-split}
pub use Rattle.mds_types.proofs.LeafLaws.{flips, leaf-exact, leaf-total, leaf_equivalence, leaf_itself, leaf_or_apart, one_leaf, same_leaf}
pub use Rattle.mds_types.specs.Frag.{Fragment, IsFragment, child_of, span}
pub use Rattle.mds_types.specs.Leaf.{leaf_of}
pub use Rattle.mds_types.specs.declared.dirfrags.Dirfrag.{Dirfrag}
pub use Rattle.mds_types.specs.declared.ids.Ino.{Ino}
pub use Rattle.mds_types.specs.declared.inodes.Inode.{Inode}
pub use Rattle.namehash.specs.Rjenkins.{hash_of}
pub use Rattle.objstore.proofs.PageLaws.{pages_make_up}
pub use Rattle.objstore.specs.EntryKeys.{NamesKey}
pub use Rattle.objstore.specs.Objects.{Objects}
pub use Rattle.objstore.specs.Omap.{PairMap, PairPage, key_cmp, page_of, pairs_after}
pub use Rattle.sorted_map.proofs.Filters.{all_kept}
pub use Rattle.sorted_map.proofs.NatKeys.{is_same}
pub use Rattle.sorted_map.specs.SortedMap.{contents}
pub use Rattle.std.proofs.Common.{Bool, Bor, Err, IfErr, IfOk, List, None, Ok, OnOk, Option, Result, Some, [], ap, arith, cond, drop, false, filter, get_or, inl, inr, insert, is_some, length, map, nat_le, nat_lt, refl, remove, replicate, rules, set, slice_get, subst, suc, sym, take, true, zero, ℕ, ◌%◌, ◌&&◌, ◌*◌, ◌++◌, ◌+◌, ◌-◌, ◌/◌, ◌<◌, ◌^◌, ◌||◌, ◌∙◌, ◌∷◌, ◌≡◌, ◌≢◌, ◌≤◌, ◌⊎◌}
pub use Rattle.std.proofs.Math.Nat.{div-add-mod, mul-le-mul_right}
pub use Rattle.std.proofs.lemmas.Bool.{and_from, and_left, and_parts, cases_lt, eqb-true, false_from_ne_true}
pub use Rattle.std.proofs.lemmas.Bool.Decides.{nat_tests}
pub use Rattle.std.proofs.lemmas.List.{length-append, length-drop, length-take-le, take-append-drop, take_all}
pub use Rattle.std.proofs.lemmas.List.Folds.{list_all-append}
pub use Rattle.std.proofs.lemmas.Map.{length-set_value, lookup-set_value}
pub use Rattle.std.proofs.lemmas.Map.Keys.{IsDistinct-head, IsDistinct-tail}
pub use Rattle.std.proofs.lemmas.Map.Steps.{length-le_from_keys}
pub use Rattle.std.proofs.lemmas.Nat.{mod-mul-add, pow_pos}
pub use Rattle.std.proofs.lemmas.Option.{same_Some, slice_get-get_or, slice_get_past}
pub use Rattle.std.proofs.lemmas.Result.{IfErr-weaker, on_err_weaker, on_ok_weaker}
pub use Rattle.std.specs.Cmp.{alike_right, tied_itself}
pub use Rattle.std.specs.FinMap.{empty_of_len, get-empty, len-empty, same_map}
pub use Rattle.std.specs.List.{AllByRecursion, IsDistinct, list_any, slice_index_or}
pub use Rattle.std.specs.List.Sorted.{IsBinarySearchResult, IsNonDecreasingBy, IsSearchInRange}
pub use Rattle.std.specs.Map.{keys_of, lookup, remove_entry, set_value}
pub use Rattle.std.specs.Map.Iter.{deref_pair}
pub use Rattle.std.specs.Option.{option_copied_mut}
pub use Rattle.std.specs.Ordering.{ordering_index, ordering_reverse}
pub use Rattle.std.specs.Prelude.{IsSome, SomeIff, option_copied, unwrap_or, ◌==◌}
pub use Rattle.std.specs.Slice.{IsItemAt}
pub use Rattle.std.specs.Vec.Iter.{into_iter_items, into_iter_len}
pub use Rattle.std.specs.declared.cmp.Ordering.{Ordering}
pub use Rattle.std.specs.declared.cmp.Ordering.TheVariants.{Equal, Greater, Less}
