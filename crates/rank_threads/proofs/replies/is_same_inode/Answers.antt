-- Two inodes are equal where all that they have is.
use Rattle.rank_threads.proofs.Common.{Decides-at, inode_decides}
use Rattle.rank_threads.proofs.replies.is_same_inode.Goals as goal

pub returns : goal.returns
returns c = Decides-at c.eq.result _ c.eq.ensures (inode_decides c.args.one.now c.args.other.now)
