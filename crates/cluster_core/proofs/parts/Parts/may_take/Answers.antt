use Rattle.cluster_core.proofs.Common.{IfSome, IsAtHolder, LacksOneOf, MatchBool, MayTouchEach, Option, Spot, cluster_of, leaf_of, leaf_taken, subst, sym}
use Rattle.cluster_core.proofs.GrantLaws.{none_lacks, only_one}
use Rattle.cluster_core.proofs.parts.Parts.may_take.Goals as goal

pub may_touch-requires : goal.may_touch-requires
may_touch-requires g c = subst (λ (o : Option Spot). IfSome o (λ spot. IsAtHolder (cluster_of c.args.self.now).state spot.at)) c.in-Some.is c.requires.taken

pub returns-in-Some : goal.returns-in-Some
returns-in-Some g c =
    let s = (cluster_of c.args.self.now).state in
    subst (λ (o : Option Spot). MatchBool c.may_touch.result (MayTouchEach s c.args.rank c.args.request.now (leaf_taken o)) (LacksOneOf s c.args.rank c.args.request.now (leaf_taken o))) (sym c.in-Some.is)
    (only_one s c.args.rank c.args.request.now (leaf_of c.in-Some.spot.at) c.may_touch.result c.may_touch.ensures)

pub returns-in-None : goal.returns-in-None
returns-in-None g c =
    let s = (cluster_of c.args.self.now).state in
    subst (λ (o : Option Spot). MayTouchEach s c.args.rank c.args.request.now (leaf_taken o)) (sym c.in-None.is) (none_lacks s c.args.rank c.args.request.now)
