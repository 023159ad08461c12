use Rattle.ranked_tree.proofs.Common.{LacksPlacesAt, LacksPlacesFor, came_cap, came_ranks, held_in, leaf_of, rules, state_of, ◌+◌, ◌^◌}
use Rattle.ranked_tree.proofs.HeldLaws.{may_hold}
use Rattle.ranked_tree.proofs.HeldRegroups.{family_came, split_on}
use Rattle.ranked_tree.proofs.StandLaws.{thawed_rules}
use Rattle.ranked_tree.proofs.regrouping.split_held.Goals as goal

pub split-requires-clause-holds : goal.split-requires-clause-holds
split-requires-clause-holds g c = may_hold (state_of c.args.tree.now) c.args.tree.now.caches (held_in c.args.regions.now) c.requires.owned.held (leaf_of c.args.at.now) c.args.at.now.rank c.requires.held

pub returns : goal.returns
returns g c =
    let its = c.split.ensures in
    let mine = thawed_rules c.args.regions.now.exports c.args.regions.now.roots.roots c.args.tree.now.homes c.args.tree.now.covers (c.args.at.now.dir, c.args.at.now.frag) c.args.at.now.rank c.requires.thawed c.requires.held in
    let split = split_on (LacksPlacesAt (2 ^ c.args.bits + 1) c.args.tree.now c.args.at.now.rank) (LacksPlacesFor (2 ^ c.args.bits + 1) c.args.tree.now c.args.regions.now.roots.roots (c.args.at.now.dir, c.args.at.now.frag)) c.args.tree.now c.split.new.self c.args.at.now.dir c.args.at.now.frag c.args.bits c.split.result (λ lacks. (c.args.at.now.rank, mine, lacks)) its.split in
    let came = family_came (state_of c.args.tree.now) c.args.regions.now.roots.roots c.args.at.now.rank c.args.at.now.dir c.args.at.now.frag c.args.bits mine c.args.tree.now.caches c.split.new.self.caches its.came in
    search (rules, its, split, came, came_ranks _ _ c.args.tree.now.caches c.split.new.self.caches its.came, came_cap _ _ c.args.tree.now.caches c.split.new.self.caches its.came)
