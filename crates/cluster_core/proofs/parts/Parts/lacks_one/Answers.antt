use Rattle.cluster_core.proofs.Common.{cluster_of, false, leaf_put, leaf_taken, leaves_gone}
use Rattle.cluster_core.proofs.GrantLaws.{lacks_left, lacks_right, others_decide, told_no, told_yes}
use Rattle.cluster_core.proofs.parts.Parts.lacks_one.Goals as goal

pub returns-then-not-may_take : goal.returns-then-not-may_take
returns-then-not-may_take g c =
    lacks_left (cluster_of c.args.self.now).state c.args.rank c.args.request.now (leaf_taken c.args.change.now.takes) _ (told_no _ _ c.may_take.result c.if-not-may_take.true c.may_take.ensures)

pub returns-then-not-may_put : goal.returns-then-not-may_put
returns-then-not-may_put g c =
    let s = (cluster_of c.args.self.now).state in
    lacks_right s c.args.rank c.args.request.now (leaf_taken c.args.change.now.takes) _
    (lacks_left s c.args.rank c.args.request.now (leaf_put c.args.change.now.puts) _ (told_no _ _ c.may_put.result c.if-not-may_put.true c.may_put.ensures))

pub returns-then-goes_along : goal.returns-then-goes_along
returns-then-goes_along g c =
    let s = (cluster_of c.args.self.now).state in
    others_decide s c.args.rank c.args.request.now (leaf_taken c.args.change.now.takes) _ false
    (told_yes _ _ c.may_take.result c.if-not-may_take.false c.may_take.ensures)
    (others_decide s c.args.rank c.args.request.now (leaf_put c.args.change.now.puts) (leaves_gone s.tree.covers c.args.change.now.gone) false
    (told_yes _ _ c.may_put.result c.if-not-may_put.false c.may_put.ensures) (c.goes_along.ensures c.if-goes_along.true c.args.request.now))

pub returns : goal.returns
returns g c =
    let s = (cluster_of c.args.self.now).state in
    others_decide s c.args.rank c.args.request.now (leaf_taken c.args.change.now.takes) _ c.lacks_gone.result
    (told_yes _ _ c.may_take.result c.if-not-may_take.false c.may_take.ensures)
    (others_decide s c.args.rank c.args.request.now (leaf_put c.args.change.now.puts) (leaves_gone s.tree.covers c.args.change.now.gone) c.lacks_gone.result
    (told_yes _ _ c.may_put.result c.if-not-may_put.false c.may_put.ensures) c.lacks_gone.ensures)
