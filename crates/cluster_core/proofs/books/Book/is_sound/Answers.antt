use Rattle.cluster_core.proofs.Common.{IsSoundKept, subst}
use Rattle.cluster_core.proofs.books.Book.is_sound.Goals as goal

pub returns : goal.returns
returns g c = subst IsSoundKept c.self.view_is c.self.invariant.sound
