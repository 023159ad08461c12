use Rattle.ranked_tree.proofs.Common.{Contains, IsFrozenLeaf, Leaf, Ranked, fragments_of, subst, sym}
use Rattle.ranked_tree.proofs.ranked_tree.RankedTree.make_change.Goals as goal

pub change_tree-requires-clause-thawed : goal.change_tree-requires-clause-thawed
change_tree-requires-clause-thawed g c = subst (λ (r : Ranked). (leaf : Leaf) → Contains (fragments_of r.tree.covers c.args.change) leaf → IsFrozenLeaf r leaf → ⊥) (sym c.self.view_is) c.requires.thawed
