-- What the look-up says, behind each past.
use Rattle.rank_threads.proofs.Common.{Bool, StandAmong, arith, subst}
use Rattle.std.specs.Prelude.{IsTrue, ◌↔◌}
use Rattle.cluster_core.proofs.Forgotten.{places_behind}
use Rattle.rank_threads.proofs.ReceiptLaws.{counted, strays}
use Rattle.rank_threads.proofs.standing.audit.Goals as goal

pub returns-in-Ok-true-clause-ok : goal.returns-in-Ok-true-clause-ok
returns-in-Ok-true-clause-ok g c = λ opening past given.
    counted past c.args.book.now.history c.args.book.now.core.state.sessions.forgotten _ c.args.from c.args.receipts.now given.behind.aside.before (places_behind opening past c.args.book.now given) _ _
    (omega (arith, c.saturating_sub-new.ensures, c.places.ensures)) c.count_firsts.ensures (c.in-Ok-true.ensures.0 c.in-Ok-true.field-0-test)

pub returns-in-Ok-false-clause-ok : goal.returns-in-Ok-false-clause-ok
returns-in-Ok-false-clause-ok g c = λ opening past given.
    strays past c.args.book.now.history c.args.book.now.core.state.sessions.forgotten _ c.args.from c.args.receipts.now given.behind.aside.before (places_behind opening past c.args.book.now given)
    (subst (λ (b : Bool). IsTrue b ↔ StandAmong c.args.book.now.core.state.sessions.forgotten c.args.book.now.history c.args.from c.args.receipts.now) c.in-Ok-false.field-0-test c.in-Ok-false.ensures)
