use Rattle.ranked_tree.proofs.Common.{Rank, Ranked, arith, length, subst, sym, ◌+◌, ◌<◌}
use Rattle.ranked_tree.proofs.StepLaws.{start_still, step_divided}
use Rattle.ranked_tree.proofs.ranked_tree.RankedTree.start.Goals as goal

pub returns-clause-holders : goal.returns-clause-holders
returns-clause-holders g c = rw (← c.self.view_is) (start_still (c.args.exporter.0 + c.args.importer.0 + 1) _ _ c.self.inside.regions.roots c.self.inside.regions.roots _ c.args.exporter c.args.importer (omega arith) (omega arith) c.start.result c.start.ensures.outcome).holds

pub invariant_of-self : goal.invariant_of-self
invariant_of-self g c =
    let has_cache : (rank : Rank) → rank.0 < length c.args.self.now.tree.caches.used → rank.0 < length c.self.inside.tree.caches.used = λ rank. subst (λ (r : Ranked). rank.0 < length r.tree.caches.used) (sym c.self.view_is) in
    step_divided c.self.inside.tree c.self.inside.regions (record { roots = c.self.inside.regions.roots; exports = c.start.new.self }) c.self.invariant
    (start_still _ _ _ c.self.inside.regions.roots c.self.inside.regions.roots _ c.args.exporter c.args.importer (has_cache c.args.exporter c.requires.exporter) (has_cache c.args.importer c.requires.importer) c.start.result c.start.ensures.outcome)
    (c.start.ensures.placed c.self.inside.regions.roots c.self.invariant.stand.placed)
