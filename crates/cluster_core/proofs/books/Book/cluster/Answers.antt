use Rattle.cluster_core.proofs.Common.{KeptState, LieAtHolder, subst}
use Rattle.cluster_core.proofs.FragmentLaws.{lie_at_holder}
use Rattle.cluster_core.proofs.books.Book.cluster.Goals as goal

pub returns-clause-lie : goal.returns-clause-lie
returns-clause-lie g c = subst (λ (k : KeptState). LieAtHolder k.core) c.self.view_is (lie_at_holder c.self.inside.cluster c.self.invariant.sound.2.behind.sound.cached)
