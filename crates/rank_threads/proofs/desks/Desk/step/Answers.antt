-- What the lock keeps of the book that was handed in, and of the requests that were sent.
use Rattle.rank_threads.proofs.Common.{arrival, receipt_of, ◌∙◌}
use Rattle.rank_threads.proofs.AskedLaws.{still_serves, told_asked}
use Rattle.rank_threads.proofs.StepLaws.{grown, past_stays, still_begins, still_behind}
use Rattle.rank_threads.proofs.desks.Desk.step.Goals as goal

pub invariant_of-self-clause-serves : goal.invariant_of-self-clause-serves
invariant_of-self-clause-serves g c =
    still_serves g.L.Handed.first.core.state.tree.limit g.L.Handed.sent g.L.Handed.first.history c.args.self.now.book c.step-answer.new.self (arrival c.args.event) (receipt_of c.step-answer.result) c.is_sound.ensures c.step-answer.ensures.one_thread c.step-answer.ensures.waits
    c.step-answer.ensures.limit c.args.self.now.begins c.requires.sent c.args.self.now.serves

pub invariant_of-self-clause-begins : goal.invariant_of-self-clause-begins
invariant_of-self-clause-begins g c =
    still_begins g.L.Handed.first.history c.args.self.now.book c.step-answer.new.self _ (grown c.args.self.now.book c.step-answer.new.self c.is_sound.ensures _ _ _ c.step-answer.ensures.one_thread) c.args.self.now.begins

pub invariant_of-self-clause-same_past : goal.invariant_of-self-clause-same_past
invariant_of-self-clause-same_past g c = past_stays c.args.self.now.book c.step-answer.new.self c.is_sound.ensures c.step-answer.ensures.goes_on ∙ c.args.self.now.same_past

pub invariant_of-self-clause-goes_on : goal.invariant_of-self-clause-goes_on
invariant_of-self-clause-goes_on g c = still_behind g.L.Handed.first c.args.self.now.book c.step-answer.new.self c.step-answer.ensures.goes_on c.args.self.now.goes_on

pub invariant_of-self-else-is_first-clause-serves : goal.invariant_of-self-else-is_first-clause-serves
invariant_of-self-else-is_first-clause-serves g c =
    still_serves g.L.Handed.first.core.state.tree.limit g.L.Handed.sent g.L.Handed.first.history c.args.self.now.book c.step-answer.new.self (arrival c.args.event) (receipt_of c.step-answer.result) c.is_sound.ensures c.step-answer.ensures.one_thread c.step-answer.ensures.waits
    c.step-answer.ensures.limit c.args.self.now.begins c.requires.sent c.args.self.now.serves

pub invariant_of-self-else-is_first-clause-begins : goal.invariant_of-self-else-is_first-clause-begins
invariant_of-self-else-is_first-clause-begins g c =
    still_begins g.L.Handed.first.history c.args.self.now.book c.step-answer.new.self _ (grown c.args.self.now.book c.step-answer.new.self c.is_sound.ensures _ _ _ c.step-answer.ensures.one_thread) c.args.self.now.begins

pub invariant_of-self-else-is_first-clause-same_past : goal.invariant_of-self-else-is_first-clause-same_past
invariant_of-self-else-is_first-clause-same_past g c = past_stays c.args.self.now.book c.step-answer.new.self c.is_sound.ensures c.step-answer.ensures.goes_on ∙ c.args.self.now.same_past

pub invariant_of-self-else-is_first-clause-goes_on : goal.invariant_of-self-else-is_first-clause-goes_on
invariant_of-self-else-is_first-clause-goes_on g c = still_behind g.L.Handed.first c.args.self.now.book c.step-answer.new.self c.step-answer.ensures.goes_on c.args.self.now.goes_on

pub returns-then-is_first-clause-asked_for : goal.returns-then-is_first-clause-asked_for
returns-then-is_first-clause-asked_for g c =
    told_asked g.L.Handed.first.core.state.tree.limit g.L.Handed.sent g.L.Handed.first.history c.args.self.now.book c.step-answer.new.self (arrival c.args.event) (receipt_of c.step-answer.result) c.is_sound.ensures c.step-answer.ensures.one_thread c.requires.sent c.args.self.now.serves

pub returns-else-is_first-clause-asked_for : goal.returns-else-is_first-clause-asked_for
returns-else-is_first-clause-asked_for g c =
    told_asked g.L.Handed.first.core.state.tree.limit g.L.Handed.sent g.L.Handed.first.history c.args.self.now.book c.step-answer.new.self (arrival c.args.event) (receipt_of c.step-answer.result) c.is_sound.ensures c.step-answer.ensures.one_thread c.requires.sent c.args.self.now.serves
