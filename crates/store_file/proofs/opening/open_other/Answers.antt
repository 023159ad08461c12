use Rattle.std.proofs.Common.{◌∙◌, ap, map}
use Rattle.store_file.proofs.OpenLaws.{shapes_described}
use Rattle.store_file.proofs.opening.open_other.Goals as goal

pub created-requires-clause-schema : goal.created-requires-clause-schema
created-requires-clause-schema g c =
    ap (λ ws. map (λ w. w.shape) ws) c.in-Ok-Nothing.ensures.schema ∙ shapes_described _ _ _ c.in_ok-unopened.ensures.schema c.schema.ensures
