use Rattle.ranked_tree.proofs.Common.{Roots, Rules, empty_of_len, leaf_of, rules, state_of, subst, ◌≡◌}
use Rattle.std.specs.FinMap as map
use Rattle.ranked_tree.proofs.StandLaws.{none_stand}
use Rattle.ranked_tree.proofs.authorities.authority_at.Goals as goal

pub returns-then-len-eq0 : goal.returns-then-len-eq0
returns-then-len-eq0 g c =
    let none : map.len c.args.regions.now.exports ≡ 0 = search rules in
    subst (λ (r : Roots). Rules (state_of c.args.tree.now) r (leaf_of c.args.at.now) c.args.at.now.rank) (none_stand c.args.regions.now.exports c.args.regions.now.roots.roots (empty_of_len c.args.regions.now.exports none)) c.requires.held
