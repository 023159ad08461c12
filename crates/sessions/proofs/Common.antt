-- Names of other crates, and of this one's definitions, as the proofs of this crate take them.
pub use Rattle.mds_types.specs.History.{IsPairAt, is_pair, mark}
pub use Rattle.mds_types.specs.declared.entries.Entry.{Entry}
pub use Rattle.sessions.specs.Rooms.{AreIndexed, AreListed, HeldSessions, Session, changed_at, is_among, with_changed, no_session, row_at, rows, table}
pub use Rattle.mds_types.specs.declared.replies.Reply.{Reply}
pub use Rattle.sessions.specs.Aside.{AreSetAside, IsAsideFor, StopsForgetting, forget_all, forget_first, is_kept_at, keeps_first, released, row_with_aside, rows_with_aside}
pub use Rattle.sessions.specs.Replies.{ArePairsOnce, IsInReach, kept_replies, kept_reply, replies_at, reply_to, told_reply}
pub use Rattle.sessions.specs.Stored.{AreClientsOnce, Stored, mark_or_none, mark_stored, of_mark, reply_in, reply_or_none, reply_stored, stand_in, stored_of, stand_ins, mark_stand_in, stand_ins_of, with_reply}
pub use Rattle.sessions.specs.Restored.{AreRowsOf, IsRestored, IsStoredBut, IsStoredAnew, IsStoredOf, TakesClient, TakesReply, marked_row, row_stored, row_with_told, with_client, with_told}
pub use Rattle.sessions.specs.Seen.{IsReplyAt, IsReplyIn, IsSeen, SeesInRow}
pub use Rattle.sessions.specs.Table.{IsReplyPlace, IsTableOf, Row, Rows, Table, aside_in, kept_in, mark_in, no_row, no_table, noted, noted_row, row_in, row_or_none, trimmed, trimmed_found, trimmed_row}
pub use Rattle.sessions.specs.declared.clients.Seen.{Seen}
pub use Rattle.sessions.specs.declared.clients.Seen.TheVariants.{Kept, New, Trimmed}
pub use Rattle.sorted_map.specs.SortedMap.{contents, is_from}
pub use Rattle.std.proofs.Common.{not, Bool, IfSome, List, None, Option, Some, T, [], ap, ap₂, arith, cond, eq-eqb, eqb-true, false, get_or, inl, inr, length, append-nil, append_assoc, drop, option_map, refl, take, set, subst, sym, true, vec_capacity, vec_len, ℕ, ⊎_elim, ◌&&◌, ◌++◌, ◌<◌, ◌==◌, ◌∙◌, ◌∷◌, ◌≡◌, ◌≢◌, ◌+◌, ◌-◌, suc, rules, zero}
pub use Rattle.std.proofs.Math.Bool.{or-false}
pub use Rattle.std.proofs.Math.Seq.{get_or-append-add, get_or-append_seam, get_or-drop}
pub use Rattle.std.proofs.lemmas.Bool.{and_parts, false≢true}
pub use Rattle.std.proofs.lemmas.Grind.{get_or-set_at}
pub use Rattle.std.proofs.lemmas.List.{get_or-set_other, get_or_append_left, get_or_default, length-append, length-set, set-get_or}
pub use Rattle.std.proofs.lemmas.List.Folds.{list_any-append, list_any_at, list_any_more}
pub use Rattle.std.specs.List.{list_any, slice_index_or}
pub use Rattle.std.proofs.lemmas.Map.Keys.{le_from_is_le}
pub use Rattle.std.proofs.lemmas.List.{map-append, take-append-le}
pub use Rattle.std.proofs.Math.Seq.{take-append_seam}
pub use Rattle.std.proofs.lemmas.Option.{none-some, same_Some}
pub use Rattle.std.specs.List.{AllByRecursion}
pub use Rattle.std.specs.Prelude.{is_some}
pub use Rattle.std.specs.Cmp.{nat_cmp_total, nat_eq_equiv, ranked, unsigned_tied}
pub use Rattle.std.specs.FinMap.{entries_sorted, find, get-empty, get-entries, get-from_sorted, get-insert, get-retain_keys, is_sorted, nat_cmp-IsAntisymmetric, same_map}
pub use Rattle.std.specs.FinMap.Entries.{below_all}
pub use Rattle.std.specs.Ordering.{eq_by_cmp, is_le, is_lt, nat_cmp}
pub use Rattle.std.specs.Prelude.{max, ◌||◌, ◌≤◌}
pub use Rattle.std.specs.declared.cmp.Ordering.{Ordering}
pub use Rattle.std.specs.declared.cmp.Ordering.TheVariants.{Equal, Greater, Less}
