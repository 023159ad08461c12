-- Names of other crates, and of this one's definitions, as the proofs of this crate take them.
pub use Rattle.byteorder.specs.Endian.{little_bytes}
pub use Rattle.dirfrag_codec.specs.EntryRecord.{SpellsEntry, WritesEntry}
pub use Rattle.dirfrag_codec.specs.FragHeader.{SpellsHeader}
pub use Rattle.dirfrag_codec.specs.Grammar.{Decodes}
pub use Rattle.dirfrag_codec.specs.Leaves.{AreTilesFrom, AreTreeOf, BeginsWith, BeginsWithNone, EndsAt}
pub use Rattle.dirfrag_codec.specs.Reading.{number_at, words_at}
pub use Rattle.dirfrag_codec.specs.TreeObject.{SpellsTree, leaf_bytes, tree_bytes}
pub use Rattle.dirfrag_codec.specs.Values.{inode_of_record, header_of, tree_of_bytes, written_of}
pub use Rattle.fragtree.specs.FragTree.{Tiles}
pub use Rattle.mds_types.specs.Frag.{Fragment, IsFragment, span, word_of}
pub use Rattle.std.proofs.Common.{Bool, IsSome, IsTrue, List, None, Option, Some, [], ap, arith, eq-eqb, eqb, false, inr, length, refl, rules, subst, sym, true, ℕ, ◌*◌, ◌++◌, ◌+◌, ◌^◌, ◌↔◌, ◌∙◌, ◌∷◌, ◌≡◌, ◌≤◌}
pub use Rattle.std.proofs.lemmas.List.{nil_from_length}
pub use Rattle.std.proofs.lemmas.List.Concat.{flat_map-cons}
pub use Rattle.std.proofs.lemmas.Option.{none-some, same_Some}
pub use Rattle.std.specs.List.{AllByRecursion, flat_map}
