use Rattle.dentry_cache.proofs.Common.{IsNextLeaf, None, Option, Some, ap, is_leaf_in, subst, sym, true, ◌∙◌, ◌≡◌}
use Rattle.std.specs.List.{slice_get}
use Rattle.mds_types.specs.Leaf.{Leaf}
use Rattle.dentry_cache.proofs.LeafSetLaws.{first_in, item_copied, next_in}
use Rattle.dentry_cache.proofs.leaf_set.LeafSet.next.Goals as goal

pub returns-in-Some : goal.returns-in-Some
returns-in-Some c =
    let is = c.copied.ensures ∙ item_copied c.deref.result.now c.place_behind.result c.get.result c.get.ensures.lookup ∙ ap (λ xs. slice_get xs c.place_behind.result) c.deref.ensures.value in
    subst (λ (after : Option Leaf). IsNextLeaf (λ leaf. is_leaf_in leaf c.args.self.now.leaves.items ≡ true) after c.copied.result) (sym c.in-Some.is)
    (subst (λ (r : Option Leaf). IsNextLeaf (λ leaf. is_leaf_in leaf c.args.self.now.leaves.items ≡ true) (Some c.in-Some.leaf) r) (sym is)
    (next_in c.in-Some.leaf c.args.self.now.leaves.items c.place_behind.result c.requires (rw c.deref-in-Some.ensures.value at c.place_behind.ensures)))

pub returns-in-None : goal.returns-in-None
returns-in-None c =
    let is = c.copied-in-None.ensures ∙ c.first.ensures.value ∙ ap (λ xs. slice_get xs 0) c.deref-in-None.ensures.value in
    subst (λ (after : Option Leaf). IsNextLeaf (λ leaf. is_leaf_in leaf c.args.self.now.leaves.items ≡ true) after c.copied-in-None.result) (sym c.in-None.is)
    (subst (λ (r : Option Leaf). IsNextLeaf (λ leaf. is_leaf_in leaf c.args.self.now.leaves.items ≡ true) None r) (sym is) (first_in c.args.self.now.leaves.items c.requires))
