use Rattle.export_steps.proofs.Common.{sym, ◌∙◌}
use Rattle.export_steps.proofs.Holders.{none_frozen, told_frozen, told_thawed}
use Rattle.export_steps.proofs.exports.Exports.is_frozen.Goals as goal

pub returns-then-is_empty : goal.returns-then-is_empty
returns-then-is_empty c = none_frozen c.args.self.now c.args.subtrees.now.roots c.args.dirs.now.homes c.args.dirs.now.trees (c.args.dir, c.args.frag) (sym c.self.view_is ∙ c.is_empty.ensures.0 c.if-is_empty.true)

pub returns-in-Some-get : goal.returns-in-Some-get
returns-in-Some-get c =
    told_frozen
    c.args.self.now c.args.subtrees.now.roots c.args.dirs.now.homes c.args.dirs.now.trees (c.args.dir, c.args.frag) c.in-Some.root c.in-Some-get.export c.is_freezing.result
    c.in-Some.ensures (sym c.get.ensures.export ∙ c.in-Some-get.is) c.is_freezing.ensures

pub returns-in-None : goal.returns-in-None
returns-in-None c =
    told_thawed
    c.args.self.now c.args.subtrees.now.roots c.args.dirs.now.homes c.args.dirs.now.trees (c.args.dir, c.args.frag) c.in-Some.root
    c.in-Some.ensures (sym c.get.ensures.export ∙ c.in-None.is)
