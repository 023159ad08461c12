-- A root is in its own region alone, another leaf where its directory's answer says so.
use Rattle.export_regions.proofs.Common.{ap, leaf_of, sym, ◌∙◌}
use Rattle.std.specs.FinMap as map
use Rattle.export_regions.proofs.KnownLaws.{of_known, of_root}
use Rattle.export_regions.proofs.known_dirs.KnownDirs.answer.Goals as goal

pub returns-then-is_root-clause-known : goal.returns-then-is_root-clause-known
returns-then-is_root-clause-known c homes covers right =
    of_root c.args.subtrees.now.roots homes covers (leaf_of c.args.root.now) c.is_one.result c.args.leaf.now (sym c.is_root.ensures ∙ c.if-is_root.true) c.is_one.ensures

pub returns-clause-known : goal.returns-clause-known
returns-clause-known c homes covers right =
    of_known c.args.subtrees.now.roots homes covers (leaf_of c.args.root.now) c.args.self.now right c.args.leaf.now (sym c.is_root.ensures ∙ c.if-is_root.false) c.copied.result
    (c.copied.ensures ∙ c.get_near_noting.ensures ∙ ap (λ m. map.get m c.args.leaf.now.0.0) c.self.view_is)
