-- What the lock keeps, of a step that its rank proposed.
use Rattle.rank_threads.proofs.Common.{AllByRecursion, Contains, arrival, receipt_of, ◌∙◌}
use Rattle.cluster_core.proofs.OwnLaws.{proposal_brings, proposal_stays}
use Rattle.rank_threads.proofs.AskedLaws.{still_serves}
use Rattle.rank_threads.proofs.StepLaws.{begins_same, past_stays, same_history, same_places, still_behind}
use Rattle.rank_threads.proofs.desks.Desk.make.Goals as goal

pub invariant_of-self-clause-serves : goal.invariant_of-self-clause-serves
invariant_of-self-clause-serves g c =
    let none : AllByRecursion (Contains g.L.Handed.sent) (arrival c.args.event) = proposal_brings c.requires.0 c.requires.1 c.args.event (Contains g.L.Handed.sent) c.requires.2 in
    still_serves g.L.Handed.first.core.state.tree.limit g.L.Handed.sent g.L.Handed.first.history c.args.self.now.book c.step.new.self (arrival c.args.event) (receipt_of c.step.result) c.is_sound.ensures c.step.ensures.one_thread c.step.ensures.waits c.step.ensures.limit
    c.args.self.now.begins ∣ none ∣₁ c.args.self.now.serves

pub invariant_of-self-clause-counted : goal.invariant_of-self-clause-counted
invariant_of-self-clause-counted g c =
    same_places c.args.self.now.book c.step.new.self c.is_sound.ensures c.step.ensures.goes_on
    (λ opening past given. proposal_stays c.requires.0 c.args.self.now.book.core c.step.new.self.core c.requires.1 c.args.event _ _ c.step.result c.requires.2 (c.step.ensures.stepped opening past given)) ∙ c.args.self.now.counted

pub invariant_of-self-clause-begins : goal.invariant_of-self-clause-begins
invariant_of-self-clause-begins g c =
    begins_same g.L.Handed.first.history c.args.self.now.book c.step.new.self
    (same_history c.args.self.now.book c.step.new.self c.is_sound.ensures
    (λ opening past given. proposal_stays c.requires.0 c.args.self.now.book.core c.step.new.self.core c.requires.1 c.args.event _ _ c.step.result c.requires.2 (c.step.ensures.stepped opening past given))) c.args.self.now.begins

pub invariant_of-self-clause-same_past : goal.invariant_of-self-clause-same_past
invariant_of-self-clause-same_past g c = past_stays c.args.self.now.book c.step.new.self c.is_sound.ensures c.step.ensures.goes_on ∙ c.args.self.now.same_past

pub invariant_of-self-clause-goes_on : goal.invariant_of-self-clause-goes_on
invariant_of-self-clause-goes_on g c = still_behind g.L.Handed.first c.args.self.now.book c.step.new.self c.step.ensures.goes_on c.args.self.now.goes_on
