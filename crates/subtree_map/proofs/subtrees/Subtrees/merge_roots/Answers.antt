use Rattle.subtree_map.proofs.Common.{MergesSoundly, Subtrees, subst}
use Rattle.subtree_map.proofs.Merged.{merges_soundly}
use Rattle.subtree_map.proofs.subtrees.Subtrees.merge_roots.Goals as goal

pub returns-clause-authority : goal.returns-clause-authority
returns-clause-authority c =
    subst (λ (s : Subtrees). MergesSoundly s.roots c.merge_rows.new.roots.roots c.args.dir.0 c.args.frag) c.self.view_is
    (merges_soundly _ _ c.args.dir.0 c.args.frag c.merge_rows.ensures.roots)
