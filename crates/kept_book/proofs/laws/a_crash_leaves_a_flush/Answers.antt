use Rattle.kept_book.proofs.RunLaws.{leaves_a_flush}
use Rattle.kept_book.proofs.laws.a_crash_leaves_a_flush.Goals as goal

pub returns : goal.returns
returns g c = leaves_a_flush g.T.Store.recovers
