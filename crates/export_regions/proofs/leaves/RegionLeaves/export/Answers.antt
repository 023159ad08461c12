use Rattle.export_regions.proofs.Common.{Leaf, List, ap, gathered, values, ◌∙◌}
use Rattle.export_regions.proofs.ExportLaws.{sendable}
use Rattle.export_regions.proofs.leaves.RegionLeaves.export.Goals as goal

pub returns-clause-sendable : goal.returns-clause-sendable
returns-clause-sendable c =
    sendable c.args.dirs.now.homes c.args.dirs.now.trees c.is_table.ensures c.args.caches.now c.args.root.rank.0 c.args.self.now.unclean c.requires.may c.requires.live c.args.root c.args.importer c.in_ok-sent_frags.field-0 c.requires.few c.requires.between c.knows_leaf.ensures
    (c.in_ok-sent_frags.ensures.sent ∙ ap (λ (leaves : List Leaf). values (gathered c.args.caches.now c.args.root.rank.0 leaves)) c.unclean.ensures) c.in_ok-sent_frags.ensures.sendable
