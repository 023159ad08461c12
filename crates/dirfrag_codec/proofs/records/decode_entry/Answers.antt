-- The fields that are read are those of the inode, if there is one.
use Rattle.dirfrag_codec.proofs.Common.{None, SpellsEntry, arith, inode_of_record}
use Rattle.dirfrag_codec.proofs.RecordLaws.{entry_answered, entry_refused, link_answered, one_entry}
use Rattle.dirfrag_codec.proofs.ValueLaws.{one_reading, reading_answered, reads_entry}
use Rattle.dirfrag_codec.proofs.records.decode_entry.Goals as goal

pub returns-in-Some : goal.returns-in-Some
returns-in-Some c =
    let spelled = entry_answered c.args.bytes.now _ c.inode_of.result (λ i. omega (arith, c.type_inv.bytes i)) c.in-Some.ensures c.inode_of.ensures.ok in
    record {
      spelled = spelled;
      value = reading_answered SpellsEntry inode_of_record one_entry reads_entry c.args.bytes.now c.inode_of.result spelled;
      memory = link_answered c.args.bytes.now _ c.inode_of.result (λ i. omega (arith, c.type_inv.bytes i)) c.in-Some.ensures c.inode_of.ensures.memory;
    }

pub returns-in-None : goal.returns-in-None
returns-in-None c =
    let spelled = entry_refused c.args.bytes.now c.in-None.ensures in
    record { spelled = spelled; value = one_reading SpellsEntry one_entry c.args.bytes.now None (inode_of_record c.args.bytes.now) spelled (reads_entry c.args.bytes.now); memory = tt }
