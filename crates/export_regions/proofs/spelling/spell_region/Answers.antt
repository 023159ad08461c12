use Rattle.export_regions.proofs.Common.{HasTooMany, IsOfRegion, Leaf, arith, false, here, leaf_of, length, order, refl, sym, true, unclean, unclean_in, ◌∙◌, ◌≡◌, ◌≤◌}
use Rattle.export_regions.proofs.ExportLaws.{is_export}
use Rattle.export_regions.proofs.ManyLaws.{all_so, as_many}
use Rattle.export_regions.proofs.PickLaws.{each_passes, few_picked, picked_distinct}
use Rattle.export_regions.proofs.WhereLaws.{picked_may}
use Rattle.export_regions.proofs.spelling.spell_region.Goals as goal

pub export-requires-clause-few : goal.export-requires-clause-few
export-requires-clause-few c =
    let picked : length c.in_ok-leaves.leaves.unclean ≤ length (order c.args.caches.now c.args.root.now.rank.0) =
    few_picked (IsOfRegion c.args.subtrees.now.roots c.args.dirs.now.homes c.args.dirs.now.trees (leaf_of c.args.root.now)) unclean_in c.args.caches.now c.args.root.now.rank.0 (order c.args.caches.now c.args.root.now.rank.0) c.in_ok-leaves.leaves.unclean c.in_ok-leaves.ensures.leaves.unclean in
    omega (arith, picked, c.leaves_of.ensures.few)

pub export-requires-clause-may : goal.export-requires-clause-may
export-requires-clause-may c =
    picked_may (IsOfRegion c.args.subtrees.now.roots c.args.dirs.now.homes c.args.dirs.now.trees (leaf_of c.args.root.now)) c.args.caches.now c.args.root.now.rank.0 c.requires.held c.requires.versions none c.in_ok-leaves.leaves.unclean c.in_ok-leaves.ensures.leaves.unclean
  where
    none : HasTooMany (IsOfRegion c.args.subtrees.now.roots c.args.dirs.now.homes c.args.dirs.now.trees (leaf_of c.args.root.now)) (unclean c.args.caches.now) → ⊥
    none has = let clash : false ≡ true = sym c.if-has_too_many.false ∙ c.has_too_many.ensures.1 has in cc

pub returns : goal.returns
returns c =
    let picks = c.in_ok-leaves.ensures.leaves.unclean in
    record {
      export = c.in_ok-sent.sent;
      spells = c.in_ok-bytes.ensures;
      handed = is_export (IsOfRegion c.args.subtrees.now.roots c.args.dirs.now.homes c.args.dirs.now.trees (leaf_of c.args.root.now)) c.args.caches.now c.args.root.now.rank.0 c.requires.held c.leaves_of.ensures.valid c.in_ok-leaves.leaves.unclean picks
          c.args.root.now c.args.importer c.in_ok-sent.sent refl c.in_ok-sent.ensures.sent;
      many = as_many c.args.caches.now c.in_ok-leaves.leaves.unclean c.args.root.now c.args.importer c.in_ok-sent.sent
          (picked_distinct (IsOfRegion c.args.subtrees.now.roots c.args.dirs.now.homes c.args.dirs.now.trees (leaf_of c.args.root.now)) unclean_in c.args.caches.now c.args.root.now.rank.0 (order c.args.caches.now c.args.root.now.rank.0) c.in_ok-leaves.leaves.unclean picks (c.leaves_of.ensures.valid.distinct c.args.root.now.rank.0))
          (all_so (λ (leaf : Leaf). (unclean_in (here c.args.caches.now c.args.root.now.rank.0 leaf) ≡ true) × IsOfRegion c.args.subtrees.now.roots c.args.dirs.now.homes c.args.dirs.now.trees (leaf_of c.args.root.now) leaf) (λ (leaf : Leaf). unclean_in (here c.args.caches.now c.args.root.now.rank.0 leaf) ≡ true) (λ q both. both.0) c.in_ok-leaves.leaves.unclean
          (each_passes (IsOfRegion c.args.subtrees.now.roots c.args.dirs.now.homes c.args.dirs.now.trees (leaf_of c.args.root.now)) unclean_in c.args.caches.now c.args.root.now.rank.0 (order c.args.caches.now c.args.root.now.rank.0) c.in_ok-leaves.leaves.unclean picks))
          c.in_ok-sent.ensures.sent;
      cached = c.in_ok-leaves.ensures.leaves;
      valid = c.leaves_of.ensures.valid;
    }
