use Rattle.cluster_core.proofs.Common.{IsProposal, KeptState, None, sight, subst, sym}
use Rattle.cluster_core.proofs.SettledLaws.{none_away, noted}
use Rattle.cluster_core.proofs.books.Book.note_settled.Goals as goal

pub invariant_of-self : goal.invariant_of-self
invariant_of-self g c =
    let book = c.self.inside in
    let none = subst (λ (k : KeptState). IsProposal (sight k.core c.args.rank) None) (sym c.self.view_is) c.requires in
    record {
      sound = c.self.invariant.sound;
      settled = noted book.cluster.state book.settled.ranks.items c.note.new.self.ranks.items c.args.rank c.self.invariant.settled
          (none_away book.cluster c.args.rank none (c.has_no_export.ensures.0 c.if-has_no_export.true)) c.note.ensures.most;
    }
