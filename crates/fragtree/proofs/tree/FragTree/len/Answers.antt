-- The leaves are as many as are counted, and what tiles the hashes covers them.
use Rattle.fragtree.proofs.Common.{Fragment, ap, contents, frag_cmp, length, sym, ◌∙◌}
use Rattle.fragtree.proofs.Kept.{length-leaves_of}
use Rattle.fragtree.proofs.Tilings.{covers}
use Rattle.fragtree.proofs.tree.FragTree.len.Goals as goal

pub returns-clause-len : goal.returns-clause-len
returns-clause-len c = sym (ap (length {A = Fragment}) (sym c.self.view_is) ∙ length-leaves_of (contents frag_cmp c.self.inside.splits) c.self.inside.count)

pub returns-clause-cover : goal.returns-clause-cover
returns-clause-cover c = rw (← c.self.view_is) (covers _ c.self.invariant.tree.tiles)
