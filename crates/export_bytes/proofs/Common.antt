-- Names of other crates, and of this one's definitions, as the proofs of this crate take them.
pub use Rattle.byteorder.specs.Endian.{little_bytes}
pub use Rattle.cached_frag.specs.declared.bases.Base.{Base}
pub use Rattle.cached_frag.specs.declared.bases.Base.TheVariants.{Fresh, Stored}
pub use Rattle.dirfrag_codec.proofs.Front.{IsBytes, IsBytes-drop, Takes, Takes-then, bind_some, byte_takes, guard_not, number_again, number_takes, tag_takes, width_2, width_4, width_8}
pub use Rattle.dirfrag_codec.proofs.RecordLaws.{on_err, one_written, written_short}
pub use Rattle.dirfrag_codec.proofs.TreeLaws.{word_low}
pub use Rattle.dirfrag_codec.proofs.ValueLaws.{fragment_again, fragment_decides, guarded, one_reading, read_as, reading_answered, reads_written, spelled_as, written_decides}
pub use Rattle.dirfrag_codec.specs.EntryRecord.{HasWidths, IsRecordable, WritesEntry, WritesLink, entry_bytes}
pub use Rattle.dirfrag_codec.specs.Grammar.{Decodes, HasOneMeaning, NothingFollows, IsReaderOf}
pub use Rattle.dirfrag_codec.specs.Reading.{after_tag, byte_at, number_at, ◌>>=◌}
pub use Rattle.dirfrag_codec.specs.Values.{word_fragment, is_fragment, is_name, is_written, written_of}
pub use Rattle.export_bytes.specs.Checking.{after_rising, follows, named_as, place_of, seen_by, sent_as, sent_name_text}
pub use Rattle.export_bytes.specs.Export.{SentName, SpellsExport, base_bytes, export_bytes, frag_bytes, has_record, inode_bytes, is_base_of, is_frag_before, is_name_before, is_sendable, is_sent_frag, is_sent_name, name_bytes, rise}
pub use Rattle.export_bytes.specs.Reading.{Front, Head, StatesHead, base_of, export_of, frag_of_word, front_at, sent_inode_at, is_export, items_at, part_at, parts_at, present_at, sent_frag_at, sent_name_at}
pub use Rattle.export_bytes.specs.declared.exports.Export.{Export}
pub use Rattle.export_bytes.specs.declared.exports.SentFrag.{SentFrag}
pub use Rattle.mds_types.specs.Frag.{Fragment, word_of}
pub use Rattle.mds_types.specs.declared.inodes.Inode.{Inode}
pub use Rattle.std.proofs.Common.{Bool, IsSome, List, None, Option, Some, [], ap, append_assoc, arith, cond, drop, drop-cons, eqb, false, get_or, is_some, length, ltb, not, refl, rules, subst, suc, sym, take, true, zero, ℕ, ◌&&◌, ◌++◌, ◌+◌, ◌-◌, ◌<◌, ◌^◌, ◌∙◌, ◌∷◌, ◌≡◌, ◌≤◌}
pub use Rattle.std.proofs.lemmas.Bool.{and_from, and_parts, eqb-true, le-ltb, lt-ltb, ltb-false, ltb-true}
pub use Rattle.std.proofs.lemmas.Bool.Decides.{Decides-and, Decides-like}
pub use Rattle.std.proofs.lemmas.List.{append-nil, drop_at, length-append, length-take, nil_from_length, take-append-drop, take_at}
pub use Rattle.std.proofs.lemmas.List.Concat.{flat_map-cons}
pub use Rattle.std.proofs.lemmas.Option.{cond_some, none-some, same_Some}
pub use Rattle.std.proofs.lemmas.Result.{on_ok_weaker}
pub use Rattle.std.proofs.lemmas.Slice.Eq.{bytes_eq-Decides}
pub use Rattle.std.specs.Bool.{Decides}
pub use Rattle.std.specs.List.{flat_map, list_all}
pub use Rattle.std.specs.Prelude.{Err, IfOk, IsTrue, Ok, OnErr, OnOk, Result, option_copied, option_map, ◌↔◌}
