use Rattle.subtree_map.proofs.Common.{DropsSoundly, Subtrees, subst}
use Rattle.subtree_map.proofs.Dropped.{drops_soundly}
use Rattle.subtree_map.proofs.subtrees.Subtrees.drop.Goals as goal

pub returns-clause-authority : goal.returns-clause-authority
returns-clause-authority c =
    subst (λ (s : Subtrees). DropsSoundly s.roots c.drop_dir.new.self.roots c.args.dir.0) c.self.view_is
    (drops_soundly _ _ c.args.dir.0 c.drop_dir.ensures.roots)
