use Rattle.namespace_ops.proofs.Common.{ap, nat_le, rules, subst, sym, ◌<◌, ◌^◌, ◌∙◌}
use Rattle.namespace_ops.proofs.CheckedParts.{made_checked}
use Rattle.namespace_ops.proofs.making.make.Goals as goal

pub returns-clause-checked : goal.returns-clause-checked
returns-clause-checked g c =
    made_checked _ _ _ _ _ c.args.limit c.args.dentry.now c.args.at.now.at _ c.args.new.kind c.args.new.mode c.args.new.birth _ c.requires.at.at c.in_ok-spot.ensures c.inode-inode.ensures (search rules)
    (ap (nat_le c.args.limit) (sym c.requires.at.entries) ∙ sym c.is_full.ensures.told ∙ c.if-is_full.false)
    (subst (λ n. n < 2 ^ 20) c.requires.at.entries (c.is_full.ensures.space c.if-is_full.false)) c.requires.makes
