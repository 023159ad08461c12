-- The record is that of the inode.
use Rattle.export_bytes.proofs.Recorded.{recordable}
use Rattle.export_bytes.proofs.Written.{record_put}
use Rattle.export_bytes.proofs.writing.put_inode.Goals as goal

pub returns-in_ok-record-in-Some : goal.returns-in_ok-record-in-Some
returns-in_ok-record-in-Some c =
    record_put c.put_record.result c.put_record.new.out.items c.args.out.now.items c.as_slice.result.now c.in_ok-record-in-Some.record.items c.in-Some.inode c.args.inode.now c.in-Some.is c.as_slice.ensures.value
    c.in_ok-record-in-Some.ensures.spelled c.put_record.ensures

pub encode_entry-requires : goal.encode_entry-requires
encode_entry-requires c = recordable c.args.inode.now c.in-Some.inode c.in-Some.is c.requires
