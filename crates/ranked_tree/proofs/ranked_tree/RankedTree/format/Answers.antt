use Rattle.ranked_tree.proofs.Common.{AreRoots, IsOwned, State, Subtrees, ap, new_roots, state_of, subst, sym}
use Rattle.ranked_tree.proofs.StandLaws.{stand_none}
use Rattle.ranked_tree.proofs.NewLaws.{new_are_held, new_are_roots}
use Rattle.ranked_tree.proofs.ranked_tree.RankedTree.format.Goals as goal

pub invariant_of-result : goal.invariant_of-result
invariant_of-result g c = stand_none c.in-Ok-format.tree c.new.result c.new.ensures.exports (subst (IsOwned c.in-Ok-format.tree) (ap (λ (s : Subtrees). s.roots) (sym c.new.ensures.roots)) (record {
  sound = c.in-Ok-format.ensures.sound;
  valid = subst (AreRoots (state_of c.in-Ok-format.tree)) (sym c.in-Ok.ensures) (subst (λ (s : State). AreRoots s new_roots) (sym c.in-Ok-format.ensures.state) (new_are_roots c.args.limit));
  held = new_are_held c.in-Ok-format.tree c.in-Ok.roots.roots c.args.limit c.args.ranks c.args.places c.requires.some c.in-Ok-format.ensures.state c.in-Ok-format.ensures.caches c.in-Ok.ensures;
}))
