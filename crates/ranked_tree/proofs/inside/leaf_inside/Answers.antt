use Rattle.ranked_tree.proofs.Common.{arith, leaves_of, rules, sym, tree_of_row, ◌∙◌}
use Rattle.ranked_tree.proofs.InsideLaws.{none_inside}
use Rattle.ranked_tree.proofs.inside.leaf_inside.Goals as goal

pub returns-then-not-lies_inside : goal.returns-then-not-lies_inside
returns-then-not-lies_inside c =
    none_inside (leaves_of c.args.dirs.now.trees c.args.dir.0) (tree_of_row c.args.dirs.now.homes c.args.dirs.now.trees c.pick-leaf.ensures.valid c.args.dir.0) c.args.frag c.end_of.ensures.valid c.args.hash c.requires (omega (arith, c.end_of.ensures.end)) c.pick-leaf.result c.pick-leaf.ensures.pick
    (sym c.lies_inside.ensures ∙ search rules)
