-- A beginning of the history is forgotten: from whichever opening tree and past the book went on, it goes on.
use Rattle.cluster_core.proofs.Common.{StandsBehind, append-nil, forget_all, subst, sym, take, ◌++◌}
use Rattle.cluster_core.proofs.Forgotten.{book_forgets, settled_with, still_opened}
use Rattle.cluster_core.proofs.books.Book.forget.Goals as goal

pub invariant_of-self : goal.invariant_of-self
invariant_of-self g c =
    let b = c.self.inside in
    let known = c.self.invariant.sound in
    let n = c.forget-went.result in
    let opened = still_opened known.0 b.opening c.forget_opening.new.opening n c.forget_opening.ensures.stays c.forget_opening.ensures.gone known.2.opened in
    rw (c.forget-went.ensures.core, c.forget-went.ensures.left) (record {
      sound = (known.0, known.1 ++ take n b.history.items, book_forgets known.0 known.1 (record { opening = b.opening; history = b.history.items; core = b.cluster }) c.forget_opening.new.opening n opened known.2);
      settled = settled_with b.cluster (forget_all b.cluster.state.sessions (take n b.history.items)) b.settled.ranks.items c.self.invariant.settled;
    })

pub returns-clause-goes_on : goal.returns-clause-goes_on
returns-clause-goes_on g c = λ opening past given.
    let b = c.self.inside in
    let n = c.forget-went.result in
    let goes = subst (StandsBehind opening past) (sym c.self.view_is) given in
    let opened = still_opened opening b.opening c.forget_opening.new.opening n c.forget_opening.ensures.stays c.forget_opening.ensures.gone goes.opened in
    rw (← c.self.view_is, c.forget-went.ensures.core, c.forget-went.ensures.left)
    (book_forgets opening past (record { opening = b.opening; history = b.history.items; core = b.cluster }) c.forget_opening.new.opening n opened goes)

pub returns-then-gone-keep-clause-goes_on : goal.returns-then-gone-keep-clause-goes_on
returns-then-gone-keep-clause-goes_on g c = λ opening past given. rw (append-nil past) given
