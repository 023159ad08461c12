use Rattle.objstore.proofs.Common.{ap, without_keys, ◌∙◌}
use Rattle.objstore.proofs.WriteLaws.{applied-by-parts}
use Rattle.objstore.proofs.objects.Object.apply_owned.Goals as goal

-- header and pairs are those that the operation leaves
pub returns-clause-ok : goal.returns-clause-ok
returns-clause-ok c =
    let old = c.self.inside in
    rw (← c.self.view_is)
    (applied-by-parts c.args.op (record { header = old.header; pairs = old.pairs }) _ _ c.put_header.ensures
    (c.remove_all.ensures ∙ ap (λ p. without_keys p c.args.op.remove) c.in_default.ensures.ok))
