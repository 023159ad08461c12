use Rattle.subtree_map.proofs.Common.{HoldsDentry, Home, subst, sym}
use Rattle.subtree_map.proofs.Climbs.{row_above}
use Rattle.subtree_map.proofs.Nearest.{parent_known}
use Rattle.subtree_map.proofs.Options.{one_value}
use Rattle.subtree_map.proofs.subtrees.Subtrees.is_next_below.Goals as goal

pub root_above-requires : goal.root_above-requires
root_above-requires c = record { known = parent_known c.args.dirs.now.homes c.args.dirs.now.trees c.is_table.ensures c.args.bound.now.0.0 c.in-Some.home.now (sym c.in-Some.ensures) }

pub returns-in-Some : goal.returns-in-Some
returns-in-Some c =
    let above = row_above c.args.dirs.now.homes c.args.dirs.now.trees c.args.self.now.roots c.in-Some.home.now c.root_above.result c.args.root.now c.root_above.ensures in (
      λ told. let its = above.0 (c.is_at.ensures.0 told) in record { home = c.in-Some.home.now; holder = its.0; stands = sym c.in-Some.ensures; holds = its.1; nearest = its.2 },
      λ is. c.is_at.ensures.1 (above.1 (
        is.holder,
        subst (λ (h : Home). HoldsDentry c.args.dirs.now.trees h is.holder) (one_value _ is.home c.in-Some.home.now is.stands (sym c.in-Some.ensures)) is.holds,
        is.nearest,
      )),
    )
