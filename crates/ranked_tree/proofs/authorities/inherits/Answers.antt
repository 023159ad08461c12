use Rattle.ranked_tree.proofs.Common.{Leaf, empty_of_len, false, rules, true, ◌≡◌}
use Rattle.std.specs.FinMap as map
use Rattle.ranked_tree.proofs.authorities.inherits.Goals as goal

pub returns : goal.returns
returns c = λ told.
    let none : map.len c.args.regions.now.exports ≡ 0 = search rules in
    let unknown : c.knows_of.result ≡ false = search rules in
    (empty_of_len c.args.regions.now.exports none, c.knows_of.ensures unknown)
