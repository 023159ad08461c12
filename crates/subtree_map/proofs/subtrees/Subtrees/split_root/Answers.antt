use Rattle.subtree_map.proofs.Common.{SplitsSoundly, Subtrees, subst}
use Rattle.subtree_map.proofs.Split.{splits_soundly}
use Rattle.subtree_map.proofs.subtrees.Subtrees.split_root.Goals as goal

pub returns-clause-authority : goal.returns-clause-authority
returns-clause-authority c =
    subst (λ (s : Subtrees). SplitsSoundly s.roots c.split_row.new.roots.roots c.args.dir.0 c.args.frag c.args.bits) c.self.view_is
    (splits_soundly _ _ c.args.dir.0 c.args.frag c.args.bits c.split_row.ensures.roots)
