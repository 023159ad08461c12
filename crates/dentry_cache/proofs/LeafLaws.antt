-- The lemmas on leaves as keys, passed on.
pub use Rattle.mds_types.proofs.LeafLaws.{flips, leaf-exact, leaf-total, leaf_equivalence, leaf_itself, leaf_or_apart, one_leaf, same_leaf, tied_leaf}
