-- Names of other crates, and of this one's definitions, as the proofs of this crate take them.
pub use Rattle.sorted_map.specs.Chunks.{AllFew, AllSome, AreLengths, flat, load, over, room_by, room_in, items_before, total, with_value}
pub use Rattle.sorted_map.specs.Clones.{ClonePair}
pub use Rattle.sorted_map.specs.Homes.{IsBelowKey, IsHome, place_in, starts_above}
pub use Rattle.sorted_map.specs.Overlay.{with_pairs}
pub use Rattle.sorted_map.specs.Places.{IsKeyAt, IsGap, IsPlace}
pub use Rattle.sorted_map.specs.SortedMap.{IsClone, Shown, TellsApart, after, contents, is_from, pairs_eq}
pub use Rattle.sorted_map.specs.Stores.{shown_by}
pub use Rattle.std.proofs.Common.{Bool, Decides, Equal, Err, Greater, Less, List, Ok, Ordering, Result, Some, T, [], add-one, ap, append_assoc, arith, drop, eq-eqb, eqb-true, false, get_or, inl, inr, insert, is_eq, is_lt, length, length-append, length-drop, length-set, length-take-le, not, option_map, refl, remove, reverse, rules, set, slice_get, subst, suc, sym, take, true, vec_capacity, vec_len, zero, ℕ, ◌*◌, ◌++◌, ◌+◌, ◌-◌, ◌/◌, ◌<◌, ◌∙◌, ◌∷◌, ◌≡◌, ◌≤◌, ◌⊎◌}
pub use Rattle.std.proofs.lemmas.Bool.{and_from, and_parts, false≢true}
pub use Rattle.std.proofs.lemmas.Fn.{always_returns_same, filter_same}
pub use Rattle.std.proofs.lemmas.List.{append-nil, nil_from_length, take-append-drop, take_rest}
pub use Rattle.std.proofs.lemmas.List.Edits.{get_or-remove_below, length-insert, length-remove}
pub use Rattle.std.proofs.lemmas.Slice.Eq.{slice_eq-Decides}
pub use Rattle.std.specs.Cmp.{Equal-is, IsTotalOrder, alike_right, tied_itself}
pub use Rattle.std.specs.Cmp.Lexicographic.{pointwise}
pub use Rattle.std.specs.FinMap.{IsAntisymmetric, empty_of_len, entries-from_sorted, is_sorted, len-empty, len-entries}
pub use Rattle.std.specs.FinMap.Entries.{below_all, where_key}
pub use Rattle.std.specs.List.{AllZip}
pub use Rattle.std.specs.Ordering.{eq_by_cmp, ordering_reverse}
pub use Rattle.std.specs.Prelude.{◌==◌}
