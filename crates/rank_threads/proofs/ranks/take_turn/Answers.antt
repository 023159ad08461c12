-- What the lock said of a step, or of a turn of the rank's own.
use Rattle.rank_threads.proofs.Common.{ap, sym}
use Rattle.std.proofs.Common.{rules}
use Rattle.rank_threads.proofs.OwnTurnLaws.{own_told, step_took}
use Rattle.rank_threads.specs.TookTurn.{result_of}
use Rattle.rank_threads.proofs.ranks.take_turn.Goals as goal

pub returns-in-Ok-Reply-clause-took : goal.returns-in-Ok-Reply-clause-took
returns-in-Ok-Reply-clause-took g c =
    step_took c.args.turn c.in-Step.event c.args.mine.now.own.rank c.args.mine.now.own.kept.bytes c.step-answer.result c.deref_mut.result.now.book c.step-answer.new.self.book c.in-Step.is c.step-answer.ensures.sound c.step-answer.ensures.stepped

pub returns-in-Step-2-clause-took : goal.returns-in-Step-2-clause-took
returns-in-Step-2-clause-took g c =
    step_took c.args.turn c.in-Step.event c.args.mine.now.own.rank c.args.mine.now.own.kept.bytes c.step-answer.result c.deref_mut.result.now.book c.step-answer.new.self.book c.in-Step.is c.step-answer.ensures.sound c.step-answer.ensures.stepped

pub returns-in-Step : goal.returns-in-Step
returns-in-Step g c =
    let took = step_took c.args.turn c.in-Step.event c.args.mine.now.own.rank c.args.mine.now.own.kept.bytes c.step-answer.result c.deref_mut.result.now.book c.step-answer.new.self.book c.in-Step.is c.step-answer.ensures.sound c.step-answer.ensures.stepped in search (rules, took)

pub returns-in-Ok-true-clause-took : goal.returns-in-Ok-true-clause-took
returns-in-Ok-true-clause-took g c =
    own_told c.args.turn c.args.mine.now.own.rank c.args.mine.now.own.kept.bytes c.own-made.new.own.kept.bytes c.own-made.result _ c.deref_mut-in-Own.result.now.book c.own-made.new.self.book c.in-Own.is c.own-made.ensures.sound c.own-made.ensures.turn (sym (ap result_of c.in-Ok-true.is))

pub returns-in-Ok-false-clause-took : goal.returns-in-Ok-false-clause-took
returns-in-Ok-false-clause-took g c =
    own_told c.args.turn c.args.mine.now.own.rank c.args.mine.now.own.kept.bytes c.own-made.new.own.kept.bytes c.own-made.result _ c.deref_mut-in-Own.result.now.book c.own-made.new.self.book c.in-Own.is c.own-made.ensures.sound c.own-made.ensures.turn (sym (ap result_of c.in-Ok-false.is))

pub returns-in-Err-made-clause-took : goal.returns-in-Err-made-clause-took
returns-in-Err-made-clause-took g c =
    own_told c.args.turn c.args.mine.now.own.rank c.args.mine.now.own.kept.bytes c.own-made.new.own.kept.bytes c.own-made.result _ c.deref_mut-in-Own.result.now.book c.own-made.new.self.book c.in-Own.is c.own-made.ensures.sound c.own-made.ensures.turn (sym (ap result_of c.in-Err-made.is))
