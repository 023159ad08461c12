-- Names of other crates, and of this one's definitions, as the proofs of this crate take them.
pub use Rattle.byteorder.specs.Endian.{little_bytes}
pub use Rattle.dirfrag_codec.proofs.FieldLaws.{AreWidths, Fit, numbers_again, numbers_are, numbers_take}
pub use Rattle.dirfrag_codec.proofs.Front.{IsWidth, IsBytes, IsBytes-drop, Takes, Takes-then, bind_some, byte_takes, guard_not, number_again, number_takes, width_1, width_2, width_4, width_8}
pub use Rattle.dirfrag_codec.proofs.ValueLaws.{guarded, name_decides, one_reading}
pub use Rattle.dirfrag_codec.proofs.RecordLaws.{on_err, widths_decides}
pub use Rattle.dirfrag_codec.specs.EntryRecord.{HasTarget, HasWidths, fields_bytes, kind_byte, target_bytes}
pub use Rattle.dirfrag_codec.specs.Grammar.{Decodes, HasOneMeaning, NothingFollows, IsReaderOf}
pub use Rattle.dirfrag_codec.specs.Reading.{byte_at, number_at, numbers_at, ◌>>=◌}
pub use Rattle.dirfrag_codec.specs.Values.{is_name}
pub use Rattle.mds_types.specs.Name.{IsName, IsTarget, fits_target}
pub use Rattle.mds_types.specs.declared.ids.Rank.{Rank}
pub use Rattle.mds_types.specs.declared.inodes.Inode.{Inode}
pub use Rattle.mds_types.specs.declared.inodes.Kind.{Kind}
pub use Rattle.mds_types.specs.declared.inodes.Kind.TheVariants.{Dir, File, Symlink}
pub use Rattle.mds_types.specs.declared.replies.Reply.{Reply}
pub use Rattle.mds_types.specs.declared.replies.Reply.TheVariants.{Done, Entries, Entry, Errno, Target}
pub use Rattle.reply_codec.specs.ReplyBytes.{HasRank, IsInode, IsListed, IsReply, SpellsReply, inode_numbers, inode_widths, listed_bytes, more_byte, pin_number, reply_bytes, counted_bytes}
pub use Rattle.reply_codec.specs.Reading.{InodeFields, plain_fields, inode_from, is_target, list_at, kind_from, listed_at, mode_from, more_of, bytes_at, counted_at, pin_from, reply_at, said_at}
pub use Rattle.reply_codec.specs.Values.{first_reply, has_rank, is_inode, is_kind, is_listed, is_typed, is_reply_in}
pub use Rattle.std.proofs.Common.{Bool, List, None, Option, Some, [], ap, append_assoc, arith, cond, drop, drop-cons, eqb, false, get_or, leb, length, ltb, refl, rules, subst, suc, sym, take, true, zero, ℕ, ◌&&◌, ◌++◌, ◌+◌, ◌-◌, ◌<◌, ◌^◌, ◌∙◌, ◌∷◌, ◌≡◌, ◌≤◌}
pub use Rattle.std.proofs.lemmas.Bool.{and_parts, eqb-true, le-ltb, ltb-false}
pub use Rattle.std.proofs.lemmas.Bool.Decides.{Decides-and, Decides-like, Decides-ltb, nat_tests}
pub use Rattle.std.proofs.lemmas.List.{append-nil, drop_at, length-append, length-take, nil_from_length, take-append-drop, take_at}
pub use Rattle.std.proofs.lemmas.List.Concat.{flat_map-cons}
pub use Rattle.std.proofs.lemmas.Option.{cond_some, none-some, same_Some}
pub use Rattle.std.proofs.lemmas.Result.{on_ok_weaker}
pub use Rattle.std.proofs.lemmas.Slice.Eq.{bytes_eq-Decides}
pub use Rattle.std.specs.Bool.{Decides}
pub use Rattle.std.specs.List.{AllByRecursion, flat_map, list_all}
pub use Rattle.std.specs.Prelude.{Err, IfOk, Ok, OnOk, Result, is_ok}
