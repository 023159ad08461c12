-- Names of other crates, and of this one's definitions, as the proofs of this crate take them.
pub use Rattle.fragtree.proofs.TreeLaws.{first, first_or_later, later}
pub use Rattle.fragtree.specs.FragTree.{HasLeaf, IsPick}
pub use Rattle.inode_table.specs.Dirs.{Covers, leaves_of}
pub use Rattle.inode_table.specs.TreeChanges.{MayAdd, MayRemove, MaySet}
pub use Rattle.mds_types.proofs.AlterationLaws.{altered_kind, altered_number, altered_pin, altered_size}
pub use Rattle.mds_types.proofs.DirectoryLaws.{entries_there, entry_stands}
pub use Rattle.mds_types.proofs.StepLaws.{errno_of_any_number}
pub use Rattle.mds_types.proofs.WellFormedLaws.{may_go, new_sized}
pub use Rattle.mds_types.specs.Frag.{Fragment, span}
pub use Rattle.mds_types.specs.Leaf.{Leaf, leaf_of}
pub use Rattle.mds_types.specs.Outcomes.{is_errno}
pub use Rattle.mds_types.specs.Shape.{Lists, Looks, Makes, Moves, Removes, Sets, Shape, Unlinks, destination_of, directory_of, shape, source_of}
pub use Rattle.mds_types.specs.Step.{HasSpace, IsMove, Outcome, alteration_errno, altered, altered_at, answers, dir_removed, done_in, leads_to, made, names_after, new_inode, number_or, page, removal_errno, renamed, replace_errno, room_errno, step, unless, unlinked, with_moved}
pub use Rattle.mds_types.specs.Tree.{HasPinOf, HasSize, IsUnused, IsWellFormed, Tree, dentry_cmp, entries_in, has_entries, is_dir_kind, is_directory}
pub use Rattle.mds_types.specs.declared.dentries.Dentry.{Dentry}
pub use Rattle.mds_types.specs.declared.dirfrags.Dirfrag.{Dirfrag}
pub use Rattle.mds_types.specs.declared.ids.Ino.{Ino}
pub use Rattle.mds_types.specs.declared.inodes.Alteration.{Alteration}
pub use Rattle.mds_types.specs.declared.inodes.Birth.{Birth}
pub use Rattle.mds_types.specs.declared.inodes.Inode.{Inode}
pub use Rattle.mds_types.specs.declared.inodes.Kind.{Kind}
pub use Rattle.mds_types.specs.declared.inodes.Kind.TheVariants.{Dir, File}
pub use Rattle.mds_types.specs.declared.operations.Op.{Op}
pub use Rattle.mds_types.specs.declared.operations.Op.TheVariants.{Lookup, Readdir, Readlink, Rename, Rmdir, SetPin, Setattr, Unlink}
pub use Rattle.mds_types.specs.declared.refusals.Refusal.{Refusal}
pub use Rattle.mds_types.specs.declared.replies.Reply.{Reply}
pub use Rattle.mds_types.specs.declared.replies.Reply.TheVariants.{Done, Entry, Errno}
pub use Rattle.namehash.specs.Rjenkins.{hash_of}
pub use Rattle.namespace_ops.specs.ChangedFragments.{AreApart, IsCovered, NamesOnce, changed_fragments, fragment_of, leaves_at, touched, touched_in}
pub use Rattle.namespace_ops.specs.Changes.{Carries, Concerns, IsChangeIn, IsChangeOf, IsDentryLeaf, IsMoveTo, IsNumbered, IsOffered, IsRemovalAt, IsSpot, IsUnlinkAt, MayChange, PutsAt, ReadsDirectory, Takes, LosesName, TakesBy, adds, dentry_at, directory_at, directory_gone, fragments_of, in_directory, is_idle, leaf_put, leaf_taken, leaves, leaves_gone, moves, named_once, other_put, removes, reply_by, same_leaf, sets, stays, stays_in, unless_same}
pub use Rattle.namespace_ops.specs.Checked.{Checks, IsChecked}
pub use Rattle.namespace_ops.specs.Kept.{ChangesOnly, ReadsOnly, OthersShowTheSame}
pub use Rattle.namespace_ops.specs.Picks.{holds_hash, pick_of}
pub use Rattle.namespace_ops.specs.Places.{AreLocated, IsLocated, IsLocatedAt, LiesAt, Locates, LocatesAt, main_hash}
pub use Rattle.namespace_ops.specs.declared.locating.Located.{Located}
pub use Rattle.namespace_ops.specs.declared.locating.Places.{Places}
pub use Rattle.namespace_ops.specs.declared.plans.Change.{Change}
pub use Rattle.namespace_ops.specs.declared.plans.Checked.{Checked}
pub use Rattle.namespace_ops.specs.declared.plans.Checked.TheVariants.{Answers, Changes}
pub use Rattle.namespace_ops.specs.declared.plans.Spot.{Spot}
pub use Rattle.sorted_map.proofs.NatKeys.{is_apart, is_same, same_or_apart}
pub use Rattle.std.proofs.Common.{Bool, Err, IfOk, IfSome, List, None, Ok, OnErr, OnOk, Option, Result, Some, [], ap, arith, cond, drop, false, inl, inr, map, nat_le, refl, rules, subst, sym, true, ℕ, ⊎_elim, ◌&&◌, ◌++◌, ◌<◌, ◌^◌, ◌||◌, ◌∙◌, ◌∷◌, ◌≡◌, ◌⊎◌}
pub use Rattle.std.specs.List.{Contains}
pub use Rattle.std.specs.Ordering.{eq_by_cmp}
pub use Rattle.std.specs.Prelude.{◌%◌, ◌/◌}
pub use Rattle.std.specs.Result.{result_err}
