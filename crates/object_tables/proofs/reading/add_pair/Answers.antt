use Rattle.std.proofs.Common.{◌∙◌, ap, subst, sym}
use Rattle.std.proofs.lemmas.Result.{on_ok_weaker}
use Rattle.sqlite_value.specs.Value.{owned}
use Rattle.object_tables.specs.Reading.{AddsPair, with_batch}
use Rattle.object_tables.proofs.RowLaws.{three_columns}
use Rattle.object_tables.proofs.reading.add_pair.Goals as goal

pub returns-clause-added : goal.returns-clause-added
returns-clause-added c = on_ok_weaker c.add.result (λ done.
    let is = three_columns c.args.row.now _ _ _ (sym c.len.ensures ∙ c.if-len-ne3.false) (sym c.get.ensures ∙ ap owned c.in-Text-Text-Blob.is-0) (sym c.get-2.ensures ∙ ap owned c.in-Text-Text-Blob.is-1) (sym c.get-3.ensures ∙ ap owned c.in-Text-Text-Blob.is-2) in
    subst (AddsPair (with_batch c.args.objects.now c.args.batch.now) (with_batch c.add.new.objects c.add.new.batch))
    (sym is) done)
    c.add.ensures.added
