use Rattle.std.proofs.Common.{◌∙◌, ap, arith, codes, length, map, subst, sym}
use Rattle.store_file.specs.Names.{HasNoName}
use Rattle.store_file.proofs.OpenLaws.{shapes_described, unnamed_described}
use Rattle.store_file.proofs.opening.open_older.Goals as goal

pub widened-requires-clause-shapes : goal.widened-requires-clause-shapes
widened-requires-clause-shapes g c =
    ap (λ ws. map (λ w. w.shape) ws) c.in-Ok.ensures.schema ∙ shapes_described _ _ _ c.in_ok-unopened.ensures.schema c.objects_schema.ensures.shapes

pub widened-requires-clause-free : goal.widened-requires-clause-free
widened-requires-clause-free g c =
    subst (λ ws. HasNoName ws (codes "session_map")) (sym c.in-Ok.ensures.schema)
    (unnamed_described _ _ _ (codes "session_map") c.in_ok-unopened.ensures.schema c.objects_schema.ensures.names
    (λ e. omega (arith, ap length e), (λ e. omega (arith, ap length e), tt)))
