use Rattle.cluster_core.proofs.Common.{Core, IsProposal, OfPin, WouldNot, arith, length, ltb-false, ltb-true, refl, sight, sight_of, subst, sym, ℕ, ◌<◌, ◌∙◌, ◌≡◌}
use Rattle.cluster_core.proofs.SettledLaws.{would_not}
use Rattle.cluster_core.proofs.clusters.Cluster.propose.Goals as goal

pub returns-then-not-is_rank : goal.returns-then-not-is_rank
returns-then-not-is_rank g c =
    record { proposed = (refl, omega (arith, ltb-false c.args.rank.0 (length c.args.self.now.state.inboxes) (sym c.is_rank.ensures ∙ c.if-not-is_rank.true), c.requires.numbers)) }

pub proposal-requires-clause-there : goal.proposal-requires-clause-there
proposal-requires-clause-there g c =
    subst (λ (core : Core). c.args.rank.0 < length core.caches.used) (sym c.self.view_is)
    (omega (arith, ltb-true c.args.rank.0 (length c.args.self.now.state.inboxes) (sym c.is_rank.ensures ∙ c.if-not-is_rank.false), c.requires.numbers, c.requires.caches))

pub proposal-requires-clause-settled : goal.proposal-requires-clause-settled
proposal-requires-clause-settled g c = λ told.
    let numbers = subst (λ (core : Core). length core.state.inboxes ≡ length core.state.numbers) (sym c.self.view_is) c.requires.numbers in
    subst (λ (n : ℕ). WouldNot (sight_of c.self.inside.parts.tree c.self.inside.parts.waiting.pins n c.args.rank) OfPin) (sym (c.ranks-ranks.ensures ∙ numbers))
    (subst (λ (core : Core). WouldNot (sight core c.args.rank) OfPin) (sym c.self.view_is) (would_not c.args.self.now c.args.rank (c.requires.settled told)))

pub returns : goal.returns
returns g c =
    let numbers = subst (λ (core : Core). length core.state.inboxes ≡ length core.state.numbers) (sym c.self.view_is) c.requires.numbers in
    record {
      proposed = (
        omega (arith, ltb-true c.args.rank.0 (length c.args.self.now.state.inboxes) (sym c.is_rank.ensures ∙ c.if-not-is_rank.false), c.requires.numbers),
        subst (λ (core : Core). IsProposal (sight core c.args.rank) c.proposal.result) c.self.view_is
            (subst (λ (n : ℕ). IsProposal (sight_of c.self.inside.parts.tree c.self.inside.parts.waiting.pins n c.args.rank) c.proposal.result) (c.ranks-ranks.ensures ∙ numbers) c.proposal.ensures),
      );
    }
