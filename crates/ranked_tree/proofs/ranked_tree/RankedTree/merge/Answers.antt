use Rattle.ranked_tree.proofs.Common.{HaveOneAuthority, Ranked, subst, sym}
use Rattle.ranked_tree.proofs.ranked_tree.RankedTree.merge.Goals as goal

pub merge_with_roots-requires-clause-one : goal.merge_with_roots-requires-clause-one
merge_with_roots-requires-clause-one g c = subst (λ (r : Ranked). HaveOneAuthority r.subtrees.roots r.tree.homes r.tree.covers c.args.dir.0 c.args.frag) (sym c.self.view_is) c.requires.one

pub returns-clause-one : goal.returns-clause-one
returns-clause-one g c = rw (← c.self.view_is) c.merge_with_roots.ensures.one

pub returns-clause-merged : goal.returns-clause-merged
returns-clause-merged g c = rw (← c.self.view_is) c.merge_with_roots.ensures.merged
