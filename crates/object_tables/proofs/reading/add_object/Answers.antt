use Rattle.std.proofs.Common.{◌∙◌, ap, sym}
use Rattle.std.proofs.lemmas.Result.{on_ok_weaker}
use Rattle.std.specs.FinMap as map
use Rattle.objstore.specs.Objects.{written}
use Rattle.sqlite_value.specs.Value.{owned}
use Rattle.object_tables.proofs.RowLaws.{header_written, none_there, on_this, two_columns}
use Rattle.object_tables.proofs.reading.add_object.Goals as goal

pub returns : goal.returns
returns c = on_ok_weaker c.applied.result (λ done. record {
  name = c.in-Text-Blob.name.now;
  header = c.in-Text-Blob.header.now;
  is = two_columns c.args.row.now _ _ (sym c.len.ensures ∙ c.if-len-ne2.false) (sym c.get.ensures ∙ ap owned c.in-Text-Blob.is-0) (sym c.get-2.ensures ∙ ap owned c.in-Text-Blob.is-1);
  absent = none_there c.get-else-len-ne2.result _ (c.get-else-len-ne2.ensures ∙ ap (map.get c.args.objects.now) c.in-Ok.ensures.cases.0) c.is_some.result c.is_some.ensures c.if-is_some.false;
  added =
      on_this c.apply-done.result _ done c.apply-done.ensures.done
      ∙ (ap (λ n. written c.args.objects.now n c.in_ok-op.op) c.in-Ok.ensures.cases.0
      ∙ (ap (written c.args.objects.now c.in-Text-Blob.name.now) c.in_ok-op.ensures
      ∙ header_written c.args.objects.now c.in-Text-Blob.name.now c.in-Text-Blob.header.now
      (none_there c.get-else-len-ne2.result _ (c.get-else-len-ne2.ensures ∙ ap (map.get c.args.objects.now) c.in-Ok.ensures.cases.0) c.is_some.result c.is_some.ensures c.if-is_some.false)));
}) c.applied.ensures
