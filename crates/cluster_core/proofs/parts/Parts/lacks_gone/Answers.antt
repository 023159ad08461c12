use Rattle.cluster_core.proofs.Common.{Ino, LacksOneOf, MatchBool, MayTouchEach, Option, cluster_of, leaves_gone, subst, sym}
use Rattle.cluster_core.proofs.parts.Parts.lacks_gone.Goals as goal

pub returns-in-Some : goal.returns-in-Some
returns-in-Some g c =
    let s = (cluster_of c.args.self.now).state in
    subst (λ (o : Option Ino). MatchBool c.lacks_leaf.result (LacksOneOf s c.args.rank c.args.request.now (leaves_gone s.tree.covers o)) (MayTouchEach s c.args.rank c.args.request.now (leaves_gone s.tree.covers o))) (sym c.in-Some.is) c.lacks_leaf.ensures
