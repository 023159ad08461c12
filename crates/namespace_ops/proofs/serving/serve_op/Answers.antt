use Rattle.namespace_ops.proofs.Common.{ChangesOnly, Contains, Err, IsWellFormed, ReadsOnly, Leaf, List, None, Ok, OnErr, OnOk, OthersShowTheSame, Refusal, Reply, Result, ap, changed_fragments, leaves_of, result_err, subst, sym, ◌∙◌}
use Rattle.namespace_ops.proofs.OtherLeaves.{kept_others}
use Rattle.namespace_ops.proofs.serving.serve_op.Goals as goal

pub make_change-requires-clause-touch : goal.make_change-requires-clause-touch
make_change-requires-clause-touch g c leaf has =
    let kept = c.in_ok-reply.ensures.kept in
    g.met.F.Frags.touch_on _ _ c.args.op.now None leaf kept.follows
    (c.requires.touch leaf (subst (λ (k : List Leaf). Contains k leaf) (λ i. changed_fragments c.args.limit (kept.leaves i) (kept.tree i) c.args.op.now) has))

pub returns-in-Changes-clause-frame : goal.returns-in-Changes-clause-frame
returns-in-Changes-clause-frame g c leaf others = go c.make_change.result c.make_change.ensures.frame c.make_change.ensures.kept
  where
    go : (r : Result Reply Refusal) → OnOk r (ChangesOnly (g.F.Frags.Unchanged c.check.new.frags c.make_change.new.frags) (changed_fragments c.args.limit (g.F.Frags.covers c.check.new.frags) (g.F.Frags.content c.check.new.frags) c.args.op.now))
        → OnErr r (ReadsOnly (g.F.Frags.content c.check.new.frags) (g.F.Frags.content c.make_change.new.frags) (g.F.Frags.covers c.check.new.frags) (g.F.Frags.covers c.make_change.new.frags) (g.F.Frags.Follows c.check.new.frags c.make_change.new.frags c.args.op.now (result_err r))) → g.F.Frags.Unchanged c.args.frags.now c.make_change.new.frags leaf
    go (Ok reply) frame left =
        g.met.F.Frags.unchanged_on _ _ _ leaf (g.met.F.Frags.unchanged_by _ _ c.args.op.now leaf None c.in_ok-reply.ensures.kept.follows)
        (frame leaf (λ has. others (subst (λ (k : List Leaf). Contains k leaf) (λ i. changed_fragments c.args.limit (c.in_ok-reply.ensures.kept.leaves i) (c.in_ok-reply.ensures.kept.tree i) c.args.op.now) has)))
    go (Err reason) frame left = g.met.F.Frags.unchanged_by _ _ c.args.op.now leaf _ (g.met.F.Frags.follows_on _ _ _ c.args.op.now _ c.in_ok-reply.ensures.kept.follows left.follows)

pub returns-in-Changes-clause-others : goal.returns-in-Changes-clause-others
returns-in-Changes-clause-others g c whole = go c.make_change.result c.make_change.ensures.others c.make_change.ensures.kept
  where
    go : (r : Result Reply Refusal) → OnOk r (IsWellFormed (g.F.Frags.content c.check.new.frags) → OthersShowTheSame (g.F.Frags.content c.check.new.frags) (g.F.Frags.content c.make_change.new.frags) (g.F.Frags.covers c.check.new.frags) (g.F.Frags.covers c.make_change.new.frags) (changed_fragments c.args.limit (g.F.Frags.covers c.check.new.frags) (g.F.Frags.content c.check.new.frags) c.args.op.now))
        → OnErr r (ReadsOnly (g.F.Frags.content c.check.new.frags) (g.F.Frags.content c.make_change.new.frags) (g.F.Frags.covers c.check.new.frags) (g.F.Frags.covers c.make_change.new.frags) (g.F.Frags.Follows c.check.new.frags c.make_change.new.frags c.args.op.now (result_err r)))
        → OthersShowTheSame (g.F.Frags.content c.args.frags.now) (g.F.Frags.content c.make_change.new.frags) (g.F.Frags.covers c.args.frags.now) (g.F.Frags.covers c.make_change.new.frags) (changed_fragments c.args.limit (g.F.Frags.covers c.args.frags.now) (g.F.Frags.content c.args.frags.now) c.args.op.now)
    go (Ok reply) others left =
        subst (λ t. OthersShowTheSame t (g.F.Frags.content c.make_change.new.frags) (g.F.Frags.covers c.args.frags.now) (g.F.Frags.covers c.make_change.new.frags) (changed_fragments c.args.limit (g.F.Frags.covers c.args.frags.now) t c.args.op.now)) c.in_ok-reply.ensures.kept.tree
        (subst (λ k. OthersShowTheSame (g.F.Frags.content c.check.new.frags) (g.F.Frags.content c.make_change.new.frags) k (g.F.Frags.covers c.make_change.new.frags) (changed_fragments c.args.limit k (g.F.Frags.content c.check.new.frags) c.args.op.now)) c.in_ok-reply.ensures.kept.leaves (others (subst IsWellFormed (sym c.in_ok-reply.ensures.kept.tree) whole)))
    go (Err reason) others left = kept_others (g.F.Frags.content c.args.frags.now) (g.F.Frags.content c.make_change.new.frags) (g.F.Frags.covers c.args.frags.now) (g.F.Frags.covers c.make_change.new.frags) _ (left.tree ∙ c.in_ok-reply.ensures.kept.tree) (λ d is. ap (λ k. leaves_of k d) (left.leaves ∙ c.in_ok-reply.ensures.kept.leaves))
