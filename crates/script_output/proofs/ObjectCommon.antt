-- Names of other crates, and of this one's definitions, as the proofs of this crate take them.
pub use Rattle.dirfrag_codec.proofs.ByteKeys.{key_apart, key_same, not_found, same_or_apart}
pub use Rattle.dirfrag_codec.proofs.FragmentLaws.{has_one_fragment, has_one_tree_object, names_shown, shows_at_each}
pub use Rattle.dirfrag_codec.proofs.HeaderLaws.{one_header}
pub use Rattle.dirfrag_codec.proofs.RecordLaws.{one_entry}
pub use Rattle.dirfrag_codec.proofs.TreeLaws.{four_each}
pub use Rattle.dirfrag_codec.proofs.ValueLaws.{name_decides, one_key, read_as, reading_answered, reads_entry, reads_key, spelled_as}
pub use Rattle.dirfrag_codec.specs.EntryRecord.{SpellsEntry}
pub use Rattle.dirfrag_codec.specs.FragHeader.{SpellsHeader}
pub use Rattle.dirfrag_codec.specs.FragmentObject.{HasPair, IsPairOf, Names, SpellsKey, SpellsNames, SpellsTreeObject, dirs_in, files_in, header_for, names_of_list, with_pair}
pub use Rattle.dirfrag_codec.specs.Grammar.{Decodes}
pub use Rattle.dirfrag_codec.specs.Reading.{◌>>=◌}
pub use Rattle.dirfrag_codec.specs.TreeObject.{SpellsTree, StatesLeaves, leaf_bytes}
pub use Rattle.dirfrag_codec.specs.Values.{inode_of_record, is_name, name_of_key}
pub use Rattle.dirfrag_codec.specs.declared.headers.FragHeader.{FragHeader}
pub use Rattle.mds_types.specs.Frag.{Fragment}
pub use Rattle.mds_types.specs.Tree.{is_dir_kind}
pub use Rattle.mds_types.specs.declared.inodes.Inode.{Inode}
pub use Rattle.script_output.specs.ObjectEntries.{counted_header, counted_after, is_dir_in, is_dir_under, with_one}
pub use Rattle.script_output.specs.ShownObjects.{HasOneLine, MayTakeMemory, ShowsFragment, SpellsNoFragment, SpellsNoTree}
pub use Rattle.objstore.specs.EntryKeys.{NamesKey, entry_key}
pub use Rattle.objstore.specs.Omap.{Omap, PairMap, PairPage, key_cmp, page_of}
pub use Rattle.script_output.specs.declared.object_lines.ObjectLine.TheVariants.{Absent, Damaged, Frag, Tree}
pub use Rattle.sorted_map.proofs.Bools.{left_of, right_of}
pub use Rattle.sorted_map.proofs.Filters.{all_kept}
pub use Rattle.std.proofs.Common.{Bool, List, None, Option, Some, [], ap, arith, cond, drop, false, inl, inr, length, ltb, map, not, refl, subst, suc, sym, true, ℕ, ◌+◌, ◌∙◌, ◌∷◌, ◌≡◌, ◌≤◌, ◌⊎◌}
pub use Rattle.std.proofs.lemmas.Bool.Decides.{nat_tests}
pub use Rattle.std.proofs.lemmas.List.{nil_from_length, take_all}
pub use Rattle.std.proofs.lemmas.Option.{same_Some}
pub use Rattle.std.specs.Cmp.Lexicographic.{nat_list_cmp_total}
pub use Rattle.std.specs.FinMap.{empty_of_len, entries-from_sorted, entries-insert, entries_sorted, find, get-entries, get-from_sorted, is_sorted, len-empty, len-entries}
pub use Rattle.std.specs.FinMap.Entries.{by_order, put}
pub use Rattle.std.specs.List.{flat_map}
pub use Rattle.std.specs.Ordering.{eq_by_cmp, is_eq}
pub use Rattle.std.specs.Prelude.{Err, IfOk, Ok, OnErr, Result, T, filter, take}
pub use Rattle.std.specs.declared.cmp.Ordering.{Ordering}
pub use Rattle.std.specs.declared.cmp.Ordering.TheVariants.{Equal, Greater, Less}
