-- A flush leaves a sound book.
use Rattle.cluster_core.proofs.Common.{IsSoundKept, StandsBehind, subst, sym}
use Rattle.cluster_core.proofs.FlushedBook.{flushed_behind}
use Rattle.cluster_core.proofs.SettledLaws.{flushed_settled}
use Rattle.cluster_core.proofs.flushing.flush.Goals as goal

pub invariant_of-book : goal.invariant_of-book
invariant_of-book g c =
    let b = c.book.inside in
    let known = c.book.invariant.sound in
    record {
      sound = (known.0, known.1, record { opened = known.2.opened; behind = flushed_behind known.0 known.1 b.history.items b.cluster c.flush.new.self known.2.behind c.flush.ensures.left c.flush.ensures.kept c.flush.ensures.cached c.flush.ensures.exported });
      settled = flushed_settled b.cluster c.flush.new.self b.settled.ranks.items c.flush.ensures.left c.book.invariant.settled;
    }

pub returns-clause-sound : goal.returns-clause-sound
returns-clause-sound g c = (invariant_of-book g c).sound

pub returns-clause-goes_on : goal.returns-clause-goes_on
returns-clause-goes_on g c = λ opening past given.
    let b = c.book.inside in
    let goes = subst (StandsBehind opening past) (sym c.book.view_is) given in
    record { opened = goes.opened; behind = flushed_behind opening past b.history.items b.cluster c.flush.new.self goes.behind c.flush.ensures.left c.flush.ensures.kept c.flush.ensures.cached c.flush.ensures.exported }

-- nothing was done
pub returns-then-not-has_no_export-clause-sound : goal.returns-then-not-has_no_export-clause-sound
returns-then-not-has_no_export-clause-sound g c = subst IsSoundKept c.book.view_is c.book.invariant.sound
