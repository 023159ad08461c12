use Rattle.objstore.proofs.Common.{ap, header_after, overlaid, pairs_before, without_keys, ◌∙◌}
use Rattle.objstore.proofs.WriteLaws.{applied-by-parts}
use Rattle.objstore.proofs.objects.Object.apply.Goals as goal

-- header and pairs are those that the operation leaves
pub returns-clause-ok : goal.returns-clause-ok
returns-clause-ok c =
    let old = c.self.inside in
    rw (← c.self.view_is)
    (applied-by-parts c.args.op.now (record { header = old.header; pairs = old.pairs }) _ _
    (c.put_header.ensures ∙ ap (λ h. header_after c.args.op.now.clear h old.header) c.in_ok-header.ensures)
    (c.remove_all.ensures ∙ ap (λ p. without_keys p c.args.op.now.remove) (c.in_ok-put_pairs.ensures.ok ∙ ap (overlaid (pairs_before c.args.op.now.clear old.pairs)) c.in_ok-set.ensures)))
