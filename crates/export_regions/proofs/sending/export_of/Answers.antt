use Rattle.export_regions.proofs.Common.{HasTooMany, IsOfRegion, arith, false, leaf_of, length, order, refl, sym, true, unclean, unclean_in, ◌∙◌, ◌≡◌, ◌≤◌}
use Rattle.export_regions.proofs.ExportLaws.{is_export}
use Rattle.export_regions.proofs.PickLaws.{few_picked}
use Rattle.export_regions.proofs.WhereLaws.{picked_may}
use Rattle.export_regions.proofs.sending.export_of.Goals as goal

pub export-requires-clause-few : goal.export-requires-clause-few
export-requires-clause-few c =
    let picked : length c.in_ok-leaves.leaves.unclean ≤ length (order c.args.caches.now c.args.root.rank.0) =
    few_picked (IsOfRegion c.args.subtrees.now.roots c.args.dirs.now.homes c.args.dirs.now.trees (leaf_of c.args.root)) unclean_in c.args.caches.now c.args.root.rank.0 (order c.args.caches.now c.args.root.rank.0) c.in_ok-leaves.leaves.unclean c.in_ok-leaves.ensures.leaves.unclean in
    omega (arith, picked, c.leaves_of.ensures.few)

pub export-requires-clause-may : goal.export-requires-clause-may
export-requires-clause-may c =
    picked_may (IsOfRegion c.args.subtrees.now.roots c.args.dirs.now.homes c.args.dirs.now.trees (leaf_of c.args.root)) c.args.caches.now c.args.root.rank.0 c.requires.held c.requires.versions none c.in_ok-leaves.leaves.unclean c.in_ok-leaves.ensures.leaves.unclean
  where
    none : HasTooMany (IsOfRegion c.args.subtrees.now.roots c.args.dirs.now.homes c.args.dirs.now.trees (leaf_of c.args.root)) (unclean c.args.caches.now) → ⊥
    none has = let clash : false ≡ true = sym c.if-has_too_many.false ∙ c.has_too_many.ensures.1 has in cc

pub returns-clause-sent : goal.returns-clause-sent
returns-clause-sent c =
    is_export (IsOfRegion c.args.subtrees.now.roots c.args.dirs.now.homes c.args.dirs.now.trees (leaf_of c.args.root)) c.args.caches.now c.args.root.rank.0 c.requires.held c.leaves_of.ensures.valid c.in_ok-leaves.leaves.unclean c.in_ok-leaves.ensures.leaves.unclean
    c.args.root c.args.importer c.in_ok-export.field-0 refl c.in_ok-export.ensures.sent
