-- Names of other crates, and of this one's definitions, as the proofs of this crate take them.
pub use Rattle.byteorder.specs.Endian.{little_bytes}
pub use Rattle.dirfrag_codec.proofs.Front.{IsBytes, Takes, Takes-then, IsBytes-drop, bind_some, guard_not, number_again, number_takes, width_4, width_8}
pub use Rattle.dirfrag_codec.proofs.ValueLaws.{read_as}
pub use Rattle.dirfrag_codec.specs.Grammar.{HasOneMeaning}
pub use Rattle.dirfrag_codec.specs.Reading.{number_at, ◌>>=◌}
pub use Rattle.mds_types.specs.declared.replies.Reply.{Reply}
pub use Rattle.reply_codec.proofs.ReplyLaws.{one_reply}
pub use Rattle.reply_codec.proofs.ValueLaws.{reads_reply}
pub use Rattle.reply_codec.specs.Reading.{bytes_at, counted_at}
pub use Rattle.reply_codec.specs.ReplyBytes.{IsReply, SpellsReply, counted_bytes, reply_bytes}
pub use Rattle.reply_codec.specs.Values.{reply_from}
pub use Rattle.session_rows.specs.ClientRows.{Ascend, IsBroken, IsNoRow, IsRow, IsTold, IsNotRead, MayKeep, ReadsRow, ReadsTold, StoredClient, SpellsRow, next_from, next_number, row_bytes, told_bytes, with_next_told, wrong_text, wrong_told}
pub use Rattle.session_rows.specs.declared.faults.RowFault.{RowFault}
pub use Rattle.session_rows.specs.declared.faults.RowFault.TheVariants.{BelowMark, Length, NoMemory, NoReply, OtherRange, OutOfOrder}
pub use Rattle.session_rows.specs.declared.told.Told.{Told}
pub use Rattle.std.proofs.Common.{Bool, List, None, Option, Some, [], ap, append_assoc, arith, cond, drop, false, inl, inr, length, ltb, refl, rules, subst, suc, sym, take, true, zero, ℕ, ◌++◌, ◌+◌, ◌-◌, ◌<◌, ◌^◌, ◌∙◌, ◌∷◌, ◌≡◌, ◌≤◌}
pub use Rattle.std.proofs.lemmas.Bool.{le-ltb, ltb-false, ltb-true}
pub use Rattle.std.proofs.lemmas.List.{append-nil, drop_at, flat_map_more, length-append, length-take, take-append-drop, take_at}
pub use Rattle.std.proofs.lemmas.List.Concat.{flat_map-cons}
pub use Rattle.std.proofs.lemmas.Bool.Decides.{nat_tests}
pub use Rattle.std.proofs.lemmas.Option.{none-some, same_Some}
pub use Rattle.std.specs.List.{AllByRecursion, flat_map, slice_get}
pub use Rattle.std.specs.Prelude.{Err, IfErr, IsErrAnd, IsTrue, Ok, OnOk, Result, is_ok, ◌⊎◌}
