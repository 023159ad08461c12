use Rattle.plain_frags.proofs.Common.{Kept, above_is, ap, is_above, is_directory, ◌∙◌}
use Rattle.plain_frags.proofs.frags.PlainFragsFrags.is_above.Goals as goal

pub returns : goal.returns
returns c =
    above_is _ _ c.self.invariant c.args.dir.0 c.args.below.0 c.is_above.result (ap (λ (k : Kept). is_directory k.tree c.args.below.0) c.self.view_is ∙ c.requires) c.is_above.ensures
    ∙ ap (λ (k : Kept). is_above k.tree c.args.dir.0 c.args.below.0) c.self.view_is
