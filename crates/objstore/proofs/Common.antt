-- Names of other crates, and of this one's definitions, as the proofs of this crate take them.
pub use Rattle.mds_types.specs.Name.{IsName}
pub use Rattle.mds_types.specs.NameFault.{NameFromBytes}
pub use Rattle.objstore.specs.EntryKeys.{entry_key}
pub use Rattle.objstore.specs.Objects.{NameList, Objects}
pub use Rattle.objstore.specs.Omap.{Omap, empty_omap, key_cmp}
pub use Rattle.objstore.specs.Writes.{applied, header_after, pairs_before}
pub use Rattle.objstore.specs.declared.write_ops.WriteOp.{WriteOp}
pub use Rattle.sorted_map.proofs.Filters.{all_kept}
pub use Rattle.sorted_map.proofs.MapLaws.{contents-entries, entries-contents, tie}
pub use Rattle.sorted_map.specs.Overlay.{overlaid, without_keys}
pub use Rattle.std.proofs.Common.{Bool, Err, List, None, Ok, OnErr, OnOk, Result, Some, [], ap, arith, codes, cond, drop, false, filter, length, map, refl, rules, string_bytes, subst, sym, take, true, ℕ, ◌++◌, ◌==◌, ◌∙◌, ◌∷◌, ◌≡◌, ◌≤◌}
pub use Rattle.std.proofs.lemmas.List.{length-map, take-append-drop, take_all}
pub use Rattle.std.proofs.lemmas.Map.Lookups.{exact_bytes}
pub use Rattle.std.proofs.lemmas.Slice.Eq.{bytes_eq-Decides}
pub use Rattle.std.specs.Cmp.Lexicographic.{nat_list_cmp_total, pointwise}
pub use Rattle.std.specs.FinMap.{get-insert, len-entries, same_map}
pub use Rattle.std.specs.Option.{unwrap_or}
pub use Rattle.std.specs.Ordering.{eq_by_cmp}
