use Rattle.std.proofs.Common.{ap, ◌∙◌, map}
use Rattle.store_file.proofs.OpenLaws.{fresh_of, shapes_described}
use Rattle.store_file.proofs.opening.open_database.Goals as goal

pub settled-requires : goal.settled-requires
settled-requires g c =
    fresh_of c.in-Ok.store c.in-Ok.ensures.ready
    (ap (λ ws. map (λ w. w.shape) ws) c.in-Ok.ensures.schema ∙ shapes_described _ _ _ c.in_ok-unopened.ensures.schema c.schema.ensures)
