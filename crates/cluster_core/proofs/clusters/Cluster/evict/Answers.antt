use Rattle.cluster_core.proofs.Common.{Core, ap, arith, length, ltb-true, refl, shown_tree, state_of, sym, table, ◌∙◌, ◌≡◌}
use Rattle.cluster_core.proofs.Worked.{at_rank, worked}
use Rattle.cluster_core.proofs.clusters.Cluster.evict.Goals as goal

pub evict-requires : goal.evict-requires
evict-requires g c =
    let is : length c.self.inside.parts.tree.tree.caches.used ≡ length c.args.self.now.state.inboxes = ap (λ (k : Core). length k.caches.used) c.self.view_is ∙ c.requires in
    omega (arith, is, ltb-true c.args.rank.0 (length c.args.self.now.state.inboxes) (sym c.is_rank.ensures ∙ c.if-not-is_rank.false))

pub returns-clause-evicted : goal.returns-clause-evicted
returns-clause-evicted g c past =
    let e = c.in_ok-evict.ensures in
    at_rank _ _ _ (sym c.is_rank.ensures ∙ c.if-not-is_rank.false)
    (rw (← c.self.view_is) (
      (
        tt,
        refl,
        (λ i. state_of (e.kept.state i) (e.roots i).roots (e.exports i) c.self.inside.parts.given.numbers.items c.self.inside.parts.waiting.inboxes c.self.inside.parts.waiting.pins (table c.self.inside.parts.given.sessions)),
        worked _ _ _ _ _ _ e.exports _ _ _ _ past (ap shown_tree e.kept.state),
      ),
      ap (λ s. s.roots) e.roots,
    ))

pub returns-clause-uses : goal.returns-clause-uses
returns-clause-uses g c = at_rank _ _ _ (sym c.is_rank.ensures ∙ c.if-not-is_rank.false) (rw (← c.self.view_is) (c.in_ok-evict.ensures.evicted, tt))
