use Rattle.ranked_tree.proofs.Common.{AreCachedOf, IfErr-weaker, IsInRegionOf, IsSpelledBy, RegionLeaves, inl, inr, length, rules, state_of, subst, sym, ⊎_elim, ◌≡◌}
use Rattle.ranked_tree.proofs.ImportLaws.{may_not, ready, still_divided, took}
use Rattle.ranked_tree.proofs.importing.take_region.Goals as goal

pub hand_over-requires : goal.hand_over-requires
hand_over-requires g c =
    let cached = subst (λ (l : RegionLeaves). AreCachedOf (IsInRegionOf (state_of c.args.tree.now) c.args.regions.now.roots.roots c.args.root.now) c.args.tree.now.caches c.args.export.exporter.0 l) (λ i. record { unclean = sym c.unclean.ensures i; clean = sym c.clean.ensures i }) c.in-Ok.ensures.cached in
    let its = ready c.args.tree.now c.args.regions.now c.requires.divided c.args.root.now c.args.export c.requires.stands c.requires.sent (record { unclean = c.unclean.result.now; clean = c.clean.result.now }) cached in
    let ranks = c.requires.divided.stand.there c.args.root.now c.args.export c.requires.stands in
    search (rules, its, ranks, its.distinct c.in-Ok.ensures.valid)

pub returns-in-Ok : goal.returns-in-Ok
returns-in-Ok g c =
    let leaves : RegionLeaves = record { unclean = c.unclean.result.now; clean = c.clean.result.now } in
    let same : c.in-Ok.region ≡ leaves = λ i. record { unclean = sym c.unclean.ensures i; clean = sym c.clean.ensures i } in
    let cached = subst (λ (l : RegionLeaves). AreCachedOf (IsInRegionOf (state_of c.args.tree.now) c.args.regions.now.roots.roots c.args.root.now) c.args.tree.now.caches c.args.export.exporter.0 l) same c.in-Ok.ensures.cached in
    let spelled = subst (λ (l : RegionLeaves). IsSpelledBy (state_of c.args.tree.now) c.args.regions.now.roots.roots c.args.root.now c.args.export c.args.bytes.now (length l.unclean)) same c.in-Ok.ensures.spelled in
    let its = c.hand_over.ensures in
    record {
      taken = took c.args.tree.now c.hand_over.new.self c.args.regions.now c.requires.divided c.args.root.now c.args.export c.requires.stands c.requires.sent c.requires.ranks.apart c.args.bytes.now leaves cached c.in-Ok.ensures.valid spelled c.hand_over.result its.handed its.given;
      refused = may_not c.args.tree.now c.hand_over.new.self c.args.regions.now c.requires.divided c.args.root.now c.args.export c.requires.stands c.requires.sent c.requires.ranks.apart c.args.bytes.now leaves cached c.in-Ok.ensures.valid spelled c.hand_over.result its.refused;
      left = its.left;
      caches = IfErr-weaker c.hand_over.result _ _ (λ reason. ⊎_elim (λ full. inl full.2) (λ memory. inr (memory.0, c.unclean.result.now, memory.2))) its.refused;
      still = still_divided c.args.tree.now c.hand_over.new.self c.args.regions.now c.requires.divided c.args.root.now c.args.export c.requires.stands c.requires.sent c.requires.ranks.apart c.args.bytes.now leaves cached c.in-Ok.ensures.valid spelled c.hand_over.result its.refused its.left its.count its.sound;
      shown = its.shown;
      beside = its.beside;
      count = its.count;
      cap = its.cap;
      sound = its.sound;
    }
