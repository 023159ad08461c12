use Rattle.ranked_tree.proofs.Common.{held_in, state_of}
use Rattle.ranked_tree.proofs.HeldLaws.{may_hold}
use Rattle.ranked_tree.proofs.holding.holder_of.Goals as goal

pub holder-requires-clause-valid : goal.holder-requires-clause-valid
holder-requires-clause-valid g c = rw (c.dirs.ensures.homes, c.dirs.ensures.trees) c.requires.owned.valid

pub returns-clause-rules : goal.returns-clause-rules
returns-clause-rules g c = rw (← c.dirs.ensures.homes, ← c.dirs.ensures.trees) c.holder.ensures

pub returns-clause-holds : goal.returns-clause-holds
returns-clause-holds g c = may_hold (state_of c.args.tree.now) c.args.tree.now.caches (held_in c.args.regions.now) c.requires.owned.held (c.args.dir, c.args.frag) c.holder.result (returns-clause-rules g c)
