use Rattle.subtree_map.proofs.Common.{Subtrees, ap, sym, ◌∙◌}
use Rattle.subtree_map.proofs.ChildRows.{no_split, root_split}
use Rattle.subtree_map.proofs.splits.split_row.Goals as goal

pub returns-in-Some-clause-roots : goal.returns-in-Some-clause-roots
returns-in-Some-clause-roots c =
    root_split c.args.dir.0 c.args.frag c.args.bits c.in-Some.rank c.args.roots.now.roots _ _ c.requires.fits (sym c.in-Some.ensures.value) c.in-Some.ensures.removed c.put_children.ensures.children

pub returns-in_default-clause-roots : goal.returns-in_default-clause-roots
returns-in_default-clause-roots c =
    let none = sym c.take.ensures.value ∙ c.in_default.is in
    no_split c.args.dir.0 c.args.frag c.args.bits c.args.roots.now.roots _ none (ap (λ (s : Subtrees). s.roots) (c.take.ensures.absent none))
