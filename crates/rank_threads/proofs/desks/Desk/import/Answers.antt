-- What the lock keeps of the book that was handed in, and of the requests that were sent.
use Rattle.rank_threads.proofs.Common.{[], receipt_of, ◌∙◌}
use Rattle.cluster_core.proofs.Recorded.{records_of}
use Rattle.rank_threads.proofs.AskedLaws.{still_serves}
use Rattle.rank_threads.proofs.StepLaws.{begins_same, past_stays, same_history, same_places, still_behind}
use Rattle.rank_threads.proofs.desks.Desk.import.Goals as goal

pub invariant_of-self-clause-serves : goal.invariant_of-self-clause-serves
invariant_of-self-clause-serves g c =
    still_serves g.L.Handed.first.core.state.tree.limit g.L.Handed.sent g.L.Handed.first.history c.args.self.now.book c.step.new.self [] (receipt_of c.step.result) c.is_sound.ensures c.step.ensures.one_thread c.step.ensures.waits c.step.ensures.limit c.args.self.now.begins ∣ tt ∣₁
    c.args.self.now.serves

pub invariant_of-self-clause-counted : goal.invariant_of-self-clause-counted
invariant_of-self-clause-counted g c =
    same_places c.args.self.now.book c.step.new.self c.is_sound.ensures c.step.ensures.goes_on (λ opening past given. (records_of _ _ _ _ _ _ (c.step.ensures.stepped opening past given)).at_serve) ∙ c.args.self.now.counted

pub invariant_of-self-clause-begins : goal.invariant_of-self-clause-begins
invariant_of-self-clause-begins g c =
    begins_same g.L.Handed.first.history c.args.self.now.book c.step.new.self
    (same_history c.args.self.now.book c.step.new.self c.is_sound.ensures (λ opening past given. (records_of _ _ _ _ _ _ (c.step.ensures.stepped opening past given)).at_serve)) c.args.self.now.begins

pub invariant_of-self-clause-same_past : goal.invariant_of-self-clause-same_past
invariant_of-self-clause-same_past g c = past_stays c.args.self.now.book c.step.new.self c.is_sound.ensures c.step.ensures.goes_on ∙ c.args.self.now.same_past

pub invariant_of-self-clause-goes_on : goal.invariant_of-self-clause-goes_on
invariant_of-self-clause-goes_on g c = still_behind g.L.Handed.first c.args.self.now.book c.step.new.self c.step.ensures.goes_on c.args.self.now.goes_on
