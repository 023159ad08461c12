use Rattle.store_file.proofs.OpenLaws.{shapes_described}
use Rattle.store_file.proofs.opening.open_files.Goals as goal

pub created-requires-clause-schema : goal.created-requires-clause-schema
created-requires-clause-schema g c = shapes_described _ _ _ c.in_ok-unopened-in-Ok-Nothing.ensures.schema c.schema.ensures
