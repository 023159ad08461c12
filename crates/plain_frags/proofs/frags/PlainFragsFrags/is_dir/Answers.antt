use Rattle.plain_frags.proofs.Common.{Kept, ap, is_directory, known_is, ◌∙◌}
use Rattle.plain_frags.proofs.frags.PlainFragsFrags.is_dir.Goals as goal

pub returns : goal.returns
returns c = c.contains.ensures.known ∙ known_is _ _ c.self.invariant c.args.dir.0 ∙ ap (λ (k : Kept). is_directory k.tree c.args.dir.0) c.self.view_is
