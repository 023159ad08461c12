-- Two listings are equal where their names and inodes are, one after the other.
use Rattle.rank_threads.proofs.Common.{bytes_eq-Decides, inode_decides, pair_decides, slice_eq-Decides}
use Rattle.rank_threads.proofs.replies.is_same_listing.Goals as goal

pub returns : goal.returns
returns c = slice_eq-Decides (pair_decides _ _ bytes_eq-Decides inode_decides) c.args.one.now c.args.other.now c.eq.result c.eq.ensures
