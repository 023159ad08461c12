use Rattle.export_steps.proofs.Common.{ap, is_ranked, not_none, region_holder, sym, ◌∙◌}
use Rattle.std.specs.FinMap as map
use Rattle.export_steps.proofs.Holders.{own_holder, some_holder_of_root}
use Rattle.export_steps.proofs.exports.Exports.holder.Goals as goal

pub returns-then-is_empty : goal.returns-then-is_empty
returns-then-is_empty c = own_holder c.args.self.now c.args.subtrees.now.roots c.args.dirs.now.homes c.args.dirs.now.trees (c.args.dir, c.args.frag) (sym c.self.view_is ∙ c.is_empty.ensures.0 c.if-is_empty.true) c.authority.result c.authority.ensures

pub unreachable-requires : goal.unreachable-requires
unreachable-requires c =
    let root = c.root_of-root.result in
    let export = map.get c.args.self.now (root.0, root.1) in
    let ranked = is_ranked c.args.subtrees.now.roots c.args.dirs.now.homes c.args.dirs.now.trees (c.args.dir, c.args.frag) root c.root_of-root.ensures in
    let held = some_holder_of_root export ranked.0 in
    not_none _ held.0 c.in-None.is (c.region_holder.ensures ∙ ap (region_holder export) ranked.1 ∙ held.1)
