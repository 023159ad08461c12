use Rattle.ranked_tree.proofs.Common.{held_in, leaf_of, rules, state_of}
use Rattle.ranked_tree.proofs.HeldLaws.{may_hold, used_at}
use Rattle.ranked_tree.proofs.StandLaws.{divided_begun}
use Rattle.ranked_tree.proofs.Stays.{begun_stays}
use Rattle.ranked_tree.proofs.commits.begin.Goals as goal

pub begin-requires-clause-holds : goal.begin-requires-clause-holds
begin-requires-clause-holds g c = may_hold (state_of c.args.tree.now) c.args.tree.now.caches (held_in c.args.regions.now) c.requires.divided.owned.held (leaf_of c.args.at.now) c.args.at.now.rank c.requires.held

pub returns : goal.returns
returns g c =
    let its = c.begin.ensures in
    let stay = begun_stays (state_of c.args.tree.now) (state_of c.begin.new.self) (leaf_of c.args.at.now) c.begin.result its.begun in
    let used = used_at c.args.tree.now c.begin.new.self (held_in c.args.regions.now) (leaf_of c.args.at.now) c.args.at.now.rank c.requires.divided.owned c.requires.held its.came its.sound stay.0 stay.1 in
    let divided = divided_begun c.args.tree.now c.begin.new.self c.args.regions.now c.requires.divided used.owned used.count (leaf_of c.args.at.now) c.requires.thawed c.begin.result its.begun stay.0 stay.1 in
    search (rules, its, used, divided)
