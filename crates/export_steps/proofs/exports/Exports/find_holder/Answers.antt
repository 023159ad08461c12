use Rattle.export_steps.proofs.Common.{sym, ◌∙◌}
use Rattle.export_steps.proofs.Holders.{told_holder, told_own}
use Rattle.export_steps.proofs.exports.Exports.find_holder.Goals as goal

pub returns-then-is_empty : goal.returns-then-is_empty
returns-then-is_empty c = told_own c.args.self.now c.args.subtrees.now.roots c.args.dirs.now.homes c.args.dirs.now.trees (c.args.dir, c.args.frag) (sym c.self.view_is ∙ c.is_empty.ensures.0 c.if-is_empty.true) c.find_authority.result c.find_authority.ensures

pub returns : goal.returns
returns c =
    told_holder
    c.args.self.now c.args.subtrees.now.roots c.args.dirs.now.homes c.args.dirs.now.trees (c.args.dir, c.args.frag) c.in-Some.root c.region_holder.result
    c.in-Some.ensures c.region_holder.ensures
