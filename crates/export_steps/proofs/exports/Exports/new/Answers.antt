use Rattle.export_steps.proofs.ByExporterLaws.{empty_exports}
use Rattle.export_steps.proofs.Placed.{empty_placed}
use Rattle.export_steps.proofs.exports.Exports.new.Goals as goal

pub returns-clause-placed : goal.returns-clause-placed
returns-clause-placed c subtrees = empty_placed _ subtrees c.new.ensures.empty

pub invariant_of-result : goal.invariant_of-result
invariant_of-result c = empty_exports _ _ c.new.ensures.empty c.new-2.ensures.empty
