use Rattle.cluster_core.proofs.Common.{IsSoundKept, subst}
use Rattle.cluster_core.proofs.books.Book.history.Goals as goal

pub returns-clause-sound : goal.returns-clause-sound
returns-clause-sound g c = subst IsSoundKept c.self.view_is c.self.invariant.sound
