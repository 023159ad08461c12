-- Names of other crates, and of this one's definitions, as the proofs of this crate take them.
pub use Rattle.mds_types.specs.Frag.{digit_at}
pub use Rattle.mds_types.specs.History.{IsLegal, IsNext, IsTaken, IsUsed, after}
pub use Rattle.mds_types.specs.Name.{fits_target}
pub use Rattle.mds_types.specs.ObjectText.{object_text, word_text}
pub use Rattle.mds_types.specs.Outcomes.{IsOld}
pub use Rattle.mds_types.specs.Shape.{Lists, Looks, Makes, Moves, Removes, Sets, Shape, Unlinks, destination_in, directory_in, shape}
pub use Rattle.mds_types.specs.Step.{Outcome, alteration_errno, altered, altered_at, answers, dir_removed, done_in, full_errno, leads_to, looked, made, new_inode, number_or, removal_errno, renamed, replace_errno, room_errno, step, unless, unlinked, with_moved}
pub use Rattle.mds_types.specs.Tree.{Tree, dentry_cmp, is_dir_kind, is_directory, numbers}
pub use Rattle.mds_types.specs.declared.dentries.Dentry.{Dentry}
pub use Rattle.mds_types.specs.declared.ids.Ino.{Ino}
pub use Rattle.mds_types.specs.declared.inodes.Alteration.{Alteration}
pub use Rattle.mds_types.specs.declared.inodes.Inode.{Inode}
pub use Rattle.mds_types.specs.declared.operations.Op.{Op}
pub use Rattle.mds_types.specs.declared.replies.Reply.{Reply}
pub use Rattle.mds_types.specs.declared.replies.Reply.TheVariants.{Done, Entry, Errno}
pub use Rattle.std.proofs.Common.{ap, arith, codes, inl, inr, map, not, rules, subst, sym, ⊎_elim, ◌+◌, ◌^◌, ◌∙◌}
pub use Rattle.std.proofs.Math.Seq.{get_or-append_seam, take-append_seam}
pub use Rattle.std.proofs.Output.{has_written_append, has_written_of_eq}
pub use Rattle.std.proofs.lemmas.Bool.{cases_lt}
pub use Rattle.std.proofs.lemmas.List.{get_or_append_left, length-append, take-append-le, take_all, take_more}
pub use Rattle.std.proofs.lemmas.Nat.{one_shl}
pub use Rattle.std.specs.FinMap.{find, get-entries}
pub use Rattle.std.specs.Fmt.{HasWritten, IsPlainFormatter, digits}
pub use Rattle.std.specs.List.{list_all, list_any, range_with_len, slice_index_or}
pub use Rattle.std.specs.Ordering.{eq_by_cmp}
pub use Rattle.std.specs.Prelude.{Bool, Contains, List, None, Option, Some, [], cond, false, is_some, length, refl, suc, take, true, zero, ℕ, ◌&&◌, ◌++◌, ◌<◌, ◌∷◌, ◌≡◌, ◌≤◌, ◌⊎◌}
