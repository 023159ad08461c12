use Rattle.export_regions.proofs.Common.{IsWord, is_sent_frag, subst, ◌∙◌}
use Rattle.export_regions.proofs.NameLaws.{frag_sendable}
use Rattle.export_regions.proofs.gathering.copy_of.Goals as goal

pub returns-clause-sendable : goal.returns-clause-sendable
returns-clause-sendable c =
    let names = c.from_vec.ensures ∙ c.in_ok-names.ensures.sent in
    (λ i. is_sent_frag (record { ino = c.args.leaf.now.0; frag = c.args.leaf.now.1; base = c.base-base.ensures i; names = names i }))
    ∙ frag_sendable c.args.leaf.now c.args.fragment.now c.knows_leaf.ensures (subst IsWord c.base-base.ensures c.knows_base.ensures) c.names_of.ensures.valid c.requires
