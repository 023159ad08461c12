use Rattle.ranked_tree.proofs.Common.{held_in}
use Rattle.ranked_tree.proofs.AskLaws.{read_of}
use Rattle.ranked_tree.proofs.listing.gather_leaf.Goals as goal

pub returns : goal.returns
returns g c =
    let its = read_of c.args.tree.now c.gather.new.self (held_in c.args.regions.now) c.args.leaf c.holder_of-rank.result c.gather.result c.requires.owned c.requires.live c.holder_of-rank.ensures.rules c.gather.ensures.reads c.gather.ensures.sound c.gather.ensures.counted c.gather.ensures.refused in
    record { page = c.gather.ensures.page; most = c.gather.ensures.most; kept = its.kept; reads = its.reads; owned = its.owned; refused = its.refused }
