-- The export of the parts that stand there is the one that the bytes spell.
use Rattle.export_bytes.proofs.Common.{SpellsExport, arith, export_of, one_reading, reading_answered}
use Rattle.export_bytes.proofs.ExportLaws.{export_decoded, one_export, reads_export}
use Rattle.export_bytes.proofs.Told.{none_spelled, some_export}
use Rattle.export_bytes.proofs.reading.decode_export.Goals as goal

pub returns-in-Ok-clause-spelled : goal.returns-in-Ok-clause-spelled
returns-in-Ok-clause-spelled c = export_decoded c.args.bytes.now c.in-Ok.answer (λ i. omega (arith, c.type_inv.bytes i)) c.in-Ok.ensures.parts

pub returns-in-Ok-clause-value : goal.returns-in-Ok-clause-value
returns-in-Ok-clause-value c =
    one_reading SpellsExport one_export c.args.bytes.now c.in-Ok.answer (export_of c.args.bytes.now)
    (export_decoded c.args.bytes.now c.in-Ok.answer (λ i. omega (arith, c.type_inv.bytes i)) c.in-Ok.ensures.parts) (reads_export c.args.bytes.now)

pub returns-in-Err-clause-spelled : goal.returns-in-Err-clause-spelled
returns-in-Err-clause-spelled c = none_spelled c.args.bytes.now c.without_memory.result c.without_memory.ensures.none

pub returns-in-Err-clause-value : goal.returns-in-Err-clause-value
returns-in-Err-clause-value c =
    reading_answered SpellsExport export_of one_export reads_export c.args.bytes.now c.without_memory.result
    (none_spelled c.args.bytes.now c.without_memory.result c.without_memory.ensures.none)

pub returns-in-Err-clause-export : goal.returns-in-Err-clause-export
returns-in-Err-clause-export c = some_export c.args.bytes.now c.without_memory.result (λ i. omega (arith, c.type_inv.bytes i)) c.without_memory.ensures.export
