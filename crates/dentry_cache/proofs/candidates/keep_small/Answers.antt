use Rattle.dentry_cache.proofs.Common.{is_leaf_in, refl, sizes_of}
use Rattle.dentry_cache.proofs.CandidateSteps.{small_each}
use Rattle.dentry_cache.proofs.candidates.keep_small.Goals as goal

pub returns-in-Some-clause-each : goal.returns-in-Some-clause-each
returns-in-Some-clause-each c =
    small_each c.args.leaf.now (c.args.leaf.now.0, c.in-Some.frag) (λ q. is_leaf_in q c.set.new.self.leaves.items) (λ q. is_leaf_in q c.args.small.now.leaves.items) (sizes_of c.args.places.now.entries) c.are_few-is.result c.whole_of.result refl
    c.in-Some.is c.whole_of.ensures.only c.are_few-is.ensures c.set.ensures.each
