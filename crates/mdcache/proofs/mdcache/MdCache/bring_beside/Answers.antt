use Rattle.mdcache.proofs.Common.{IsThat, Leaf, NoneEnds, leaf_of, ℕ, ◌⊎◌}
use Rattle.mdcache.proofs.CoreLaws.{reads_itself}
use Rattle.mdcache.proofs.mdcache.MdCache.bring_beside.Goals as goal

pub returns-then-is_cached-clause-reads : goal.returns-then-is_cached-clause-reads
returns-then-is_cached-clause-reads g c = reads_itself (λ (r : ℕ) (q : Leaf). IsThat c.args.first.now.rank.0 (leaf_of c.args.first.now) r q ⊎ IsThat c.args.at.now.rank.0 (leaf_of c.args.at.now) r q) NoneEnds c.args.self.now
