use Rattle.cluster_core.proofs.Common.{IsProposal, KeptState, None, Proposes, sight, subst}
use Rattle.cluster_core.proofs.books.Book.propose.Goals as goal

pub propose-proposed-requires-clause-settled : goal.propose-proposed-requires-clause-settled
propose-proposed-requires-clause-settled g c = λ told. c.self.invariant.settled c.args.rank (c.knows-is_settled.ensures.0 told)

pub propose-proposed-requires-clause-numbers : goal.propose-proposed-requires-clause-numbers
propose-proposed-requires-clause-numbers g c = c.self.invariant.sound.2.behind.sound.ranks.inboxes

pub propose-proposed-requires-clause-caches : goal.propose-proposed-requires-clause-caches
propose-proposed-requires-clause-caches g c = c.self.invariant.sound.2.behind.sound.ranks.caches

pub note_settled-requires : goal.note_settled-requires
note_settled-requires g c =
    subst (λ (k : KeptState). IsProposal (sight k.core c.args.rank) None) c.self.view_is
    (subst (Proposes c.self.inside.cluster c.args.rank) (c.is_nothing.ensures.0 c.if-is_nothing.true) c.propose-proposed.ensures.proposed).1
