use Rattle.subtree_map.proofs.Common.{Subtrees, ap, ◌∙◌}
use Rattle.std.specs.FinMap as map
use Rattle.subtree_map.proofs.CutOff.{cut_off, cut_valid}
use Rattle.subtree_map.proofs.subtrees.Subtrees.set.Goals as goal

pub returns-clause-authority : goal.returns-clause-authority
returns-clause-authority c =
    cut_off _ _ (c.args.dir, c.args.frag) c.args.rank
    (c.insert.ensures.roots ∙ ap (λ (s : Subtrees). map.insert s.roots (c.args.dir, c.args.frag) c.args.rank) c.self.view_is)

pub returns-clause-valid : goal.returns-clause-valid
returns-clause-valid c homes covers valid stands =
    cut_valid c.args.self.now.roots _ (c.args.dir, c.args.frag) c.args.rank
    (c.insert.ensures.roots ∙ ap (λ (s : Subtrees). map.insert s.roots (c.args.dir, c.args.frag) c.args.rank) c.self.view_is)
    homes covers valid stands
