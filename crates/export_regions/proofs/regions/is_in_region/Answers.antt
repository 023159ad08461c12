use Rattle.export_regions.proofs.Common.{IsOfRegion, Leaf, leaf_of, one_root, subst}
use Rattle.export_regions.proofs.regions.is_in_region.Goals as goal

pub returns-in-Some : goal.returns-in-Some
returns-in-Some c = (
  λ told. subst (λ (k : Leaf). IsOfRegion c.args.subtrees.now.roots c.args.dirs.now.homes c.args.dirs.now.trees k c.args.leaf.now) (c.is_one.ensures.0 told) c.in-Some.ensures,
  λ near. c.is_one.ensures.1 (one_root c.args.subtrees.now.roots c.args.dirs.now.homes c.args.dirs.now.trees c.args.leaf.now c.in-Some.found (leaf_of c.args.root.now) c.in-Some.ensures near),
)
