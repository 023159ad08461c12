use Rattle.ranked_tree.proofs.ranked_tree.RankedTree.split.Goals as goal

pub returns-clause-children : goal.returns-clause-children
returns-clause-children g c = rw (← c.self.view_is) c.split_with_roots.ensures.children

pub returns-clause-split : goal.returns-clause-split
returns-clause-split g c = rw (← c.self.view_is) c.split_with_roots.ensures.split
