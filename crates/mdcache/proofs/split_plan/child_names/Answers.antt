use Rattle.mdcache.proofs.Common.{Fragment, ap, arith, subst, sym, text_of, ◌+◌, ◌∙◌}
use Rattle.mdcache.proofs.ChildNames.{NameFirst, all_named, more_named, none_named}
use Rattle.mdcache.proofs.split_plan.child_names.Goals as goal

pub loop-i-init : goal.loop-i-init
loop-i-init c = subst (λ items. NameFirst c.args.dir c.args.frag c.args.nb 0 items) (sym c.new-names.ensures.items) (none_named c.args.dir c.args.frag c.args.nb)

pub loop-i-preserved : goal.loop-i-preserved
loop-i-preserved c =
    subst (NameFirst c.args.dir c.args.frag c.args.nb (c.loop-i.i + 1)) (sym c.in_ok-push.ensures.items)
    (more_named c.args.dir c.args.frag c.args.nb c.loop-i.i c.loop-i.names.items c.object_name.result (omega (arith, c.loop-i-test.true, c.child_count-i-end.ensures)) c.loop-i.invariant
    (c.object_name.ensures ∙ ap (λ (f : Fragment). text_of (c.args.dir, f)) c.child.ensures))

pub returns : goal.returns
returns c = all_named c.args.dir c.args.frag c.args.nb c.loop-i.i c.loop-i.names.items (omega (arith, c.loop-i-test.false, c.child_count-i-end.ensures)) c.loop-i.invariant
