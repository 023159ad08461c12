-- What the lock kept, and what was looked up.
use Rattle.rank_threads.proofs.Common.{AllByRecursion, IsAskedFor, List, Receipt, map, subst, sym, vec_items, ◌∙◌}
use Rattle.rank_threads.proofs.AskedLaws.{one_of}
use Rattle.rank_threads.proofs.Found.{kept_asked}
use Rattle.rank_threads.proofs.TurnLaws.{agree_of}
use Rattle.rank_threads.proofs.running.settled.Goals as goal

pub returns-in-Ok-clause-agree : goal.returns-in-Ok-clause-agree
returns-in-Ok-clause-agree g c =
    agree_of g.L.Handed.first c.settle-book.result c.args.from c.in-Ok.receipts.items (map vec_items c.args.ran.answers.items) c.settle-book.ensures.continued c.requires.from c.in-Ok.ensures.told (c.settle-book.ensures.counted ∙ c.requires.amount) c.in-Ok.ensures.stand

pub returns-in-Ok-clause-one_thread : goal.returns-in-Ok-clause-one_thread
returns-in-Ok-clause-one_thread g c =
    let asked = subst (λ (rs : List Receipt). ∥ AllByRecursion (IsAskedFor g.L.Handed.sent) rs ∥₁) (sym c.in-Ok.ensures.told) c.requires.asked_for in
    one_of g.L.Handed.first c.settle-book.result g.L.Handed.sent c.in-Ok.receipts.items c.settle-book.ensures.continued c.settle-book.ensures.serves (kept_asked g.L.Handed.sent c.in-Ok.receipts.items asked) (returns-in-Ok-clause-agree g c)
