use Rattle.plain_frags.proofs.Common.{ChangesOnly, Covers, IsStanding, ShowsTheSame, Tree, fragments_of, subst₂}
use Rattle.plain_frags.proofs.frags.PlainFragsFrags.change.Goals as goal

pub returns-clause-frame : goal.returns-clause-frame
returns-clause-frame c =
    subst₂ (λ (t : Tree) (k : Covers). ChangesOnly (λ leaf. IsStanding t k leaf → ShowsTheSame t c.make.new.self.tree c.make.new.self.covers leaf) (fragments_of k c.args.change)) c.ready.ensures.tree c.ready.ensures.covers c.make.ensures.frame
