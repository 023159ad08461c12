use Rattle.ranked_tree.proofs.Common.{AllHave, LacksPlacesAt, LacksPlacesInside, came_cap, came_ranks, rules}
use Rattle.ranked_tree.proofs.HeldRegroups.{merge_on, merged_came}
use Rattle.ranked_tree.proofs.StandLaws.{thawed_rules}
use Rattle.ranked_tree.proofs.regrouping.merge_held.Goals as goal

pub holder_of_all-rank-requires-clause-one : goal.holder_of_all-rank-requires-clause-one
holder_of_all-rank-requires-clause-one g c a b r s in_a in_b live_a live_b has_a has_b =
    c.requires.one a b r s in_a in_b live_a live_b (thawed_rules c.args.regions.now.exports c.args.regions.now.roots.roots c.args.tree.now.homes c.args.tree.now.covers a r (c.requires.thawed a in_a live_a) has_a)
    (thawed_rules c.args.regions.now.exports c.args.regions.now.roots.roots c.args.tree.now.homes c.args.tree.now.covers b s (c.requires.thawed b in_b live_b) has_b)

pub returns : goal.returns
returns g c =
    let its = c.merge.ensures in
    let (leaf, live, inside) = c.holder_of_all-rank.ensures.inside in
    let all : AllHave c.args.tree.now.homes c.args.tree.now.covers c.args.regions.now.roots.roots c.args.dir c.args.frag c.holder_of_all-rank.result
    = λ leaf live inside. thawed_rules c.args.regions.now.exports c.args.regions.now.roots.roots c.args.tree.now.homes c.args.tree.now.covers leaf c.holder_of_all-rank.result
    (c.requires.thawed leaf inside live) (c.holder_of_all-rank.ensures.all leaf live inside) in
    let merged = merge_on (LacksPlacesAt 1 c.args.tree.now c.holder_of_all-rank.result) (LacksPlacesInside 1 c.args.tree.now c.args.regions.now.roots.roots c.args.dir c.args.frag) c.args.tree.now c.merge.new.self c.args.dir c.args.frag c.merge.result (λ lacks. (leaf, live, inside, (c.holder_of_all-rank.result, all leaf live inside, lacks))) its.merged in
    let came = merged_came c.args.tree.now c.args.regions.now.roots.roots c.holder_of_all-rank.result c.args.dir c.args.frag all c.merge.new.self.caches its.came in
    search (rules, its, merged, came, came_ranks _ _ c.args.tree.now.caches c.merge.new.self.caches its.came, came_cap _ _ c.args.tree.now.caches c.merge.new.self.caches its.came)
