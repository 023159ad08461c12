-- Names of other crates, and of this one's definitions, as the proofs of this crate take them.
pub use Rattle.fragtree.specs.Descents.{AllSome, Descends, Ends, EndsBeyond, SpellsLeaves, IsLedTo, IsSplitRound, KeepsEnds, Spells, FragSplits, frag_of_hash, halved, spelled_leaves, on, splits_round, there}
pub use Rattle.fragtree.specs.FragTree.{HasLeaf, IsAscendingCover, IsPick, IsTree, Tiles}
pub use Rattle.mds_types.specs.Frag.{Contains, ContainsFragment, Fragment, IsFragment, frag_cmp, root_fragment, span}
pub use Rattle.mds_types.specs.OrderLaws.{frag-exact}
pub use Rattle.sorted_map.proofs.Bools.{left_of, right_of}
pub use Rattle.sorted_map.specs.SortedMap.{contents, is_from}
pub use Rattle.std.proofs.Common.{Bool, Err, IfNone, IfSome, IsSome, List, None, Ok, Option, Result, Some, T, [], ap, arith, cond, drop, false, inl, inr, is_some, leb, length, refl, rules, subst, suc, sym, true, zero, ℕ, ◌%◌, ◌*◌, ◌++◌, ◌+◌, ◌-◌, ◌<◌, ◌^◌, ◌↔◌, ◌∙◌, ◌∷◌, ◌≡◌, ◌≤◌, ◌⊎◌}
pub use Rattle.std.proofs.Math.Nat.{mod-eq_of_lt, pow-le-pow_right}
pub use Rattle.std.proofs.lemmas.Bool.{cases_Bool, cases_lt}
pub use Rattle.std.proofs.lemmas.Bool.Decides.{nat_tests}
pub use Rattle.std.proofs.lemmas.List.{append_assoc, get_or_default}
pub use Rattle.std.proofs.lemmas.List.Elements.{Contains-get_or}
pub use Rattle.std.proofs.lemmas.Nat.{one_shl}
pub use Rattle.std.proofs.lemmas.Slice.Eq.{slice_eq-Decides}
pub use Rattle.std.specs.Bool.{one_answer, then_some}
pub use Rattle.std.specs.Cmp.{nat_cmp_is, ranks}
pub use Rattle.std.specs.FinMap.{entries_sorted, find, get-empty, get-entries, is_sorted}
pub use Rattle.std.specs.FinMap.Entries.{below_all, find-where_key, is_sorted-where_key, where_key}
pub use Rattle.std.specs.Ordering.{MatchOrdering, is_le, is_lt, nat_cmp, ordering_then}
pub use Rattle.std.specs.Prelude.{OnErr, SomeIff}
pub use Rattle.std.specs.declared.cmp.Ordering.{Ordering}
pub use Rattle.std.specs.declared.cmp.Ordering.TheVariants.{Equal, Greater, Less}
