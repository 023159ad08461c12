use Rattle.inode_table.proofs.Common.{ap, is_dir_kind, option_copied}
use Rattle.inode_table.proofs.table_changes.drop_dir.Goals as goal

pub drop-requires : goal.drop-requires
drop-requires c = c.requires c.in-Some.inode.now (ap option_copied c.in-Some.is) (ap is_dir_kind (c.is_dir.ensures.0 c.if-is_dir.true))
