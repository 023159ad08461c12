use Rattle.asking.proofs.Common.{◌++◌}
use Rattle.cluster_core.proofs.Forgotten.{behind_one}
use Rattle.asking.proofs.ServiceLaws.{idle_still, nothing_applied}
use Rattle.asking.proofs.services.Service.step.Goals as goal

pub invariant_of-self : goal.invariant_of-self
invariant_of-self g c = record { idle = idle_still c.args.self.now.book.core.state.inboxes c.step.new.self.core.state.inboxes _ c.requires c.args.self.now.idle c.step.ensures.waits }

pub returns-clause-silent : goal.returns-clause-silent
returns-clause-silent g c =
    let known = c.is_sound.ensures in
    let old = c.args.self.now.book.history in
    let new = c.step.new.self.history in
    behind_one known.1 new old
    (nothing_applied _ _ (known.1 ++ old) (known.1 ++ new) c.args.self.now.book.core.state.inboxes _ _ c.requires c.args.self.now.idle (c.step.ensures.one_thread known.0 known.1 known.2))
