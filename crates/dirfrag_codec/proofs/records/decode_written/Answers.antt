-- What is written is a record of version 2.
use Rattle.dirfrag_codec.proofs.Common.{None, WritesEntry, written_of}
use Rattle.dirfrag_codec.proofs.RecordLaws.{one_written, written_answered, written_link, written_other, written_unless}
use Rattle.dirfrag_codec.proofs.ValueLaws.{one_reading, reading_answered, reads_written}
use Rattle.dirfrag_codec.proofs.records.decode_written.Goals as goal

pub returns-in_default-clause-value : goal.returns-in_default-clause-value
returns-in_default-clause-value c =
    one_reading WritesEntry one_written c.args.bytes.now None (written_of c.args.bytes.now) (written_unless c.args.bytes.now c.in_default.ensures) (reads_written c.args.bytes.now)

pub returns-then-version-ne-SECOND-clause-value : goal.returns-then-version-ne-SECOND-clause-value
returns-then-version-ne-SECOND-clause-value c =
    one_reading WritesEntry one_written c.args.bytes.now None (written_of c.args.bytes.now)
    (written_other c.args.bytes.now c.in-Some.version _ c.in-Some.ensures c.if-version-ne-SECOND.true) (reads_written c.args.bytes.now)

pub returns-clause-value : goal.returns-clause-value
returns-clause-value c =
    reading_answered WritesEntry written_of one_written reads_written c.args.bytes.now c.decode_entry.result
    (written_answered c.args.bytes.now c.in-Some.version _ c.decode_entry.result c.in-Some.ensures c.if-version-ne-SECOND.false c.decode_entry.ensures.spelled)

pub returns-clause-memory : goal.returns-clause-memory
returns-clause-memory c =
    written_link c.args.bytes.now c.in-Some.version _ c.decode_entry.result c.in-Some.ensures c.if-version-ne-SECOND.false c.decode_entry.ensures.memory
