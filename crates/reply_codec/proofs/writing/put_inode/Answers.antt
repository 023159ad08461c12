-- The pieces are the whole.
use Rattle.reply_codec.proofs.Written.{appended, inode_put}
use Rattle.reply_codec.proofs.writing.put_inode.Goals as goal

pub returns : goal.returns
returns c =
    inode_put c.extend_from_slice.result c.extend_from_slice.new.self.items c.args.out.now.items c.push.new.self.items c.put_u64.new.out.items c.put_u64-2.new.out.items c.put_u64-3.new.out.items c.put_u32.new.out.items c.put_u32-2.new.out.items
    c.put_u16.new.out.items c.put_u16-2.new.out.items c.put_u16-3.new.out.items c.args.inode.now c.is_inode.ensures (rw c.kind_byte.ensures at c.in_ok-push.ensures.items) c.in_ok-put_u64.ensures c.in_ok-put_u64-2.ensures c.in_ok-put_u64-3.ensures
    c.in_ok-put_u32.ensures c.in_ok-put_u32-2.ensures (rw c.bits.ensures.bits at c.in_ok-put_u16.ensures) (rw c.pin_number.ensures.number at c.in_ok-put_u16-2.ensures) (rw c.target_of-target.ensures.target at c.in_ok-put_u16-3.ensures)
    (appended c.extend_from_slice.result c.extend_from_slice.new.self.items _ _ (rw c.target_of-target.ensures.target at c.extend_from_slice.ensures.items))
