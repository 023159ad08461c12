use Rattle.export_steps.proofs.Common.{AreBetweenRanks, rules, subst}
use Rattle.export_steps.proofs.Between.{found_between}
use Rattle.export_steps.proofs.exports.Exports.get.Goals as goal

pub returns-clause-export : goal.returns-clause-export
returns-clause-export c = search rules

pub returns-clause-ranks : goal.returns-clause-ranks
returns-clause-ranks c = found_between c.args.self.now (c.args.dir, c.args.frag) c.copied.result (subst AreBetweenRanks c.self.view_is c.self.invariant.between) (returns-clause-export c)
