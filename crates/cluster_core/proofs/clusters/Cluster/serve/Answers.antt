-- The number that the rank offers is unused, since what was used lies below it; each master is one of the ranks.
use Rattle.cluster_core.proofs.Common.{AreMastersThere, AreRoots, AreSetAside, Core, IsOffered, IsRankNumber, IsTableOf, length, offer, shown, subst, supply_of, sym, ◌++◌, ◌<◌, ◌∙◌}
use Rattle.cluster_core.proofs.Offered.{masters_there, offer_unused, there_of}
use Rattle.cluster_core.proofs.Worked.{at_rank}
use Rattle.cluster_core.proofs.clusters.Cluster.serve.Goals as goal

pub serve_front-requires-clause-known : goal.serve_front-requires-clause-known
serve_front-requires-clause-known g c = (
  c.requires.1,
  subst (λ (core : Core). IsTableOf (c.requires.1 ++ c.args.history.now.items) core.state.sessions) (sym c.self.view_is) c.requires.2.sound.kept,
  subst (λ (core : Core). AreSetAside c.requires.1 c.args.history.now.items core.state.sessions) (sym c.self.view_is) c.requires.2.aside,
)

pub serve_front-requires-clause-offered : goal.serve_front-requires-clause-offered
serve_front-requires-clause-offered g c =
    let sound = c.requires.2.sound in
    subst (λ (core : Core). IsOffered (shown core.state) (λ n. IsRankNumber n) (offer (supply_of core.state c.args.rank))) (sym c.self.view_is)
    (offer_unused c.requires.0 (c.requires.1 ++ c.args.history.now.items) c.args.self.now sound c.args.rank (there_of c.args.self.now sound.ranks c.args.rank (sym c.is_rank.ensures ∙ c.if-not-is_rank.false)))

pub serve_front-requires-clause-there : goal.serve_front-requires-clause-there
serve_front-requires-clause-there g c =
    subst (λ (core : Core). c.args.rank.0 < length core.state.numbers) (sym c.self.view_is) (there_of c.args.self.now c.requires.2.sound.ranks c.args.rank (sym c.is_rank.ensures ∙ c.if-not-is_rank.false))

pub serve_front-requires-clause-masters : goal.serve_front-requires-clause-masters
serve_front-requires-clause-masters g c =
    let sound = c.requires.2.sound in
    subst (λ (core : Core). AreMastersThere core.state c.args.rank) (sym c.self.view_is)
    (masters_there c.requires.0 (c.requires.1 ++ c.args.history.now.items) c.args.self.now sound c.args.rank (there_of c.args.self.now sound.ranks c.args.rank (sym c.is_rank.ensures ∙ c.if-not-is_rank.false)))

pub serve_front-requires-clause-valid : goal.serve_front-requires-clause-valid
serve_front-requires-clause-valid g c = subst (λ (core : Core). AreRoots core.state.tree core.state.roots) (sym c.self.view_is) c.requires.2.sound.subtrees

pub returns-clause-served : goal.returns-clause-served
returns-clause-served g c = λ opening past behind.
    let tabled = subst (λ (core : Core). IsTableOf (past ++ c.args.history.now.items) core.state.sessions) (sym c.self.view_is) behind.sound.kept in
    let aside = subst (λ (core : Core). AreSetAside past c.args.history.now.items core.state.sessions) (sym c.self.view_is) behind.aside in
    at_rank _ _ _ (sym c.is_rank.ensures ∙ c.if-not-is_rank.false) (rw (← c.self.view_is) (c.serve_front.ensures.served past tabled aside))

pub returns-clause-uses : goal.returns-clause-uses
returns-clause-uses g c = at_rank _ _ _ (sym c.is_rank.ensures ∙ c.if-not-is_rank.false) (rw (← c.self.view_is) c.serve_front.ensures.uses)
