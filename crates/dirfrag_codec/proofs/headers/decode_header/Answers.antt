use Rattle.dirfrag_codec.proofs.Common.{SpellsHeader, arith, header_of}
use Rattle.dirfrag_codec.proofs.HeaderLaws.{header_decoded, one_header}
use Rattle.dirfrag_codec.proofs.ValueLaws.{one_reading, reads_header}
use Rattle.dirfrag_codec.proofs.headers.decode_header.Goals as goal

pub returns-clause-spelled : goal.returns-clause-spelled
returns-clause-spelled c = header_decoded c.args.bytes.now c.header_of.result (λ i. omega (arith, c.type_inv.bytes i)) c.header_of.ensures

pub returns-clause-value : goal.returns-clause-value
returns-clause-value c =
    one_reading SpellsHeader one_header c.args.bytes.now c.header_of.result (header_of c.args.bytes.now)
    (header_decoded c.args.bytes.now c.header_of.result (λ i. omega (arith, c.type_inv.bytes i)) c.header_of.ensures) (reads_header c.args.bytes.now)
