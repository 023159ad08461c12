-- Names of other crates, and of this one's definitions, as the proofs of this crate take them.
pub use Rattle.cached_frag.proofs.MarkLaws.{all_dirty}
pub use Rattle.cached_frag.specs.Cached.{Cached, is_clean, is_clean_over}
pub use Rattle.cached_frag.specs.Marks.{AreDirtyNames, IsDirtyName, Marks}
pub use Rattle.cached_frag.specs.Snap.{is_fresh}
pub use Rattle.cached_frag.specs.declared.bases.Base.{Base}
pub use Rattle.cached_frag.specs.declared.bases.Base.TheVariants.{Fresh, Stored}
pub use Rattle.cached_frag.specs.declared.marks.Mark.{Mark}
pub use Rattle.dentry_cache.proofs.MapLaws.{get_tabulate}
pub use Rattle.dentry_cache.proofs.ReadsLaws.{here_is}
pub use Rattle.dentry_cache.proofs.UncleanLaws.{get_unclean}
pub use Rattle.dentry_cache.specs.Cache.{HasCached, Unsaved}
pub use Rattle.dentry_cache.specs.CacheCalls.{unclean_in}
pub use Rattle.dentry_cache.specs.CacheMap.{AreCaches, At, CacheMap, IsFree, at_rank, clean_in, here, order, tabulate, unclean, unsaved_at, with_some}
pub use Rattle.dentry_cache.specs.Handing.{AreUncleanAt}
pub use Rattle.dentry_cache.specs.PlacesByUse.{PlaceOf, places_at}
pub use Rattle.dirfrag_codec.proofs.ValueLaws.{name_decides, written_decides}
pub use Rattle.dirfrag_codec.specs.EntryRecord.{HasRecord, entry_bytes}
pub use Rattle.dirfrag_codec.specs.Values.{is_fragment}
pub use Rattle.export_bytes.specs.Export.{SentName, has_record, is_base_of, is_frag_before, is_name_before, is_sendable, is_sent_frag, is_sent_name, rise}
pub use Rattle.export_bytes.specs.declared.exports.Export.{Export}
pub use Rattle.export_bytes.specs.declared.exports.SentFrag.{SentFrag}
pub use Rattle.export_regions.specs.Counts.{AnyTooMany, is_too_long}
pub use Rattle.export_regions.specs.KnownDirs.{KnownAnswers, AreNoted, AreRightAnswers, HoldsDentryOf, IsHeldIn, IsRightAnswer}
pub use Rattle.export_regions.specs.Regions.{AreSent, HasTooMany, IsExportOf, IsOfRegion, Picks, RegionLeaves, UncleanLeaves, sent_names, sent_of, values, with_leaf}
pub use Rattle.export_regions.specs.Sending.{AreAtTheirRank, AreBetween, AreLive, AreSendable, HasVersion, HaveVersions, IsExportFrom, IsWord, MaySend, MaySendAll, gathered, sent_from}
pub use Rattle.fragtree.proofs.Tilings.{between}
pub use Rattle.fragtree.proofs.TreeLaws.{pick_from_leaf}
pub use Rattle.fragtree.specs.FragTree.{HasLeaf, IsTree}
pub use Rattle.inode_table.proofs.Chains.{climbed, nearer}
pub use Rattle.inode_table.proofs.Tables.{tree_of_row}
pub use Rattle.inode_table.specs.declared.dirs.Home.{Home}
pub use Rattle.inode_table.specs.Dirs.{Covers, Homes, IsLive, IsTable, leaves_of}
pub use Rattle.mds_types.proofs.LeafLaws.{key_itself, leaf-exact, leaf-total, one_leaf, same_or_apart, tied_apart, tied_leaf}
pub use Rattle.mds_types.specs.Frag.{Contains, Fragment, frag_cmp}
pub use Rattle.mds_types.specs.Leaf.{Leaf, leaf_cmp, leaf_is, leaf_of}
pub use Rattle.mds_types.specs.declared.dirfrags.Dirfrag.{Dirfrag}
pub use Rattle.mds_types.specs.declared.ids.Ino.{Ino}
pub use Rattle.mds_types.specs.declared.ids.Rank.{Rank}
pub use Rattle.mds_types.specs.declared.inodes.Inode.{Inode}
pub use Rattle.objstore.specs.Omap.{key_cmp}
pub use Rattle.sorted_map.proofs.Bools.{left_of, right_of}
pub use Rattle.sorted_map.proofs.NatKeys.{after_put, is_apart, is_same}
pub use Rattle.sorted_map.specs.SortedMap.{contents}
pub use Rattle.std.proofs.Common.{Bool, List, None, Option, Some, [], ap, append_assoc, arith, cond, drop, drop-cons, false, get_or, inl, inr, is_some, length, map, nat_lt, not, option_map, refl, subst, suc, sym, true, zero, ℕ, ◌&&◌, ◌++◌, ◌+◌, ◌-◌, ◌<◌, ◌^◌, ◌||◌, ◌↔◌, ◌∙◌, ◌∷◌, ◌≡◌, ◌≤◌, ◌⊎◌}
pub use Rattle.std.proofs.lemmas.Bool.{and_from, and_parts, eqb-true}
pub use Rattle.std.proofs.lemmas.Bool.Decides.{nat_tests}
pub use Rattle.std.proofs.lemmas.List.{append-nil, drop_all, length-map}
pub use Rattle.std.proofs.lemmas.Map.Keys.{IsDistinct-cons, IsDistinct-head, IsDistinct-tail}
pub use Rattle.std.proofs.lemmas.Option.{same_Some}
pub use Rattle.std.specs.FinMap.{entries_sorted, find, get-empty, get-entries, get-insert, get-remove, is_sorted, len-empty, len-entries, len-insert, same_map}
pub use Rattle.std.specs.FinMap.Entries.{below_all}
pub use Rattle.std.proofs.lemmas.List.Elements.{All-contains, All-nil, All-push, All-same, Contains-get_or}
pub use Rattle.std.specs.List.{All, AllByRecursion, IsDistinct, list_all, list_any}
pub use Rattle.std.specs.Ordering.{eq_by_cmp, is_eq, is_lt, nat_cmp, ordering_then}
pub use Rattle.std.specs.Prelude.{IfSome, IsTrue, T, option_copied, slice_get, ◌==◌}
pub use Rattle.std.specs.declared.cmp.Ordering.{Ordering}
pub use Rattle.std.specs.declared.cmp.Ordering.TheVariants.{Equal, Greater, Less}
pub use Rattle.subtree_map.proofs.Covers.{contains_start}
pub use Rattle.subtree_map.proofs.Climbs.{no_stranger}
pub use Rattle.subtree_map.proofs.Nearest.{is_itself, one_holder, one_root}
pub use Rattle.subtree_map.specs.Authority.{HoldsDentry, NearestRoot, Roots}
pub use Rattle.subtree_map.specs.Authority.NearestRoot.{inherited, itself}
