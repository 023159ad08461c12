use Rattle.admin_cli.proofs.Common.{AllocError, Err, Event, IfOk, KeptState, MakesStep, Ok, Option, OutputLine, Proposes, Result, Some, TakesTurn, subst}
use Rattle.cluster_core.proofs.OwnLaws.{own_step}
use Rattle.admin_cli.specs.Admin.{seen}
use Rattle.admin_cli.proofs.commands.Admin.own_turn.Goals as goal

pub named-name-requires : goal.named-name-requires
named-name-requires g c =
    own_step c.args.self.now.book.core c.args.rank c.in-Ok-Some.event (subst (λ (o : Option Event). Proposes c.args.self.now.book.core c.args.rank (Ok o)) c.in-Ok-Some.field-0-is c.in-Ok-Some.ensures.proposed)

pub returns-in-Ok-Some-clause-line : goal.returns-in-Ok-Some-clause-line
returns-in-Ok-Some-clause-line g c = go c.own_step.result c.own_step.ensures.line
  where
    proposed : Proposes c.args.self.now.book.core c.args.rank (Ok (Some c.in-Ok-Some.event))
    proposed = subst (λ (o : Option Event). Proposes c.args.self.now.book.core c.args.rank (Ok o)) c.in-Ok-Some.field-0-is c.in-Ok-Some.ensures.proposed

    go : (r : Result OutputLine AllocError) → IfOk r (MakesStep (record (seen c.args.self.now) { book = c.propose.new.self }) (seen c.own_step.new.self) c.in-Ok-Some.event) → IfOk r (TakesTurn (seen c.args.self.now) (seen c.own_step.new.self) c.args.rank)
    go (Err error) made = tt
    go (Ok line) made = record {
      found = Ok (Some c.in-Ok-Some.event);
      proposed = proposed;
      done = subst (λ (b : KeptState). MakesStep (record (seen c.args.self.now) { book = b }) (seen c.own_step.new.self) c.in-Ok-Some.event line) c.propose.ensures.same made;
    }
