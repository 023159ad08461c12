use Rattle.dentry_cache.proofs.CandidateSteps.{resized_popped}
use Rattle.dentry_cache.proofs.cache.Cache.give_up.Goals as goal

pub resize-requires : goal.resize-requires
resize-requires c =
    resized_popped c.args.leaf.now c.self.inside.places c.pop-place.new.self c.self.inside.candidates c.size_of-was.result c.pop-place.result c.self.invariant c.len.ensures.valid.distinct c.pop-place.ensures.entries c.size_of-was.ensures c.pop-place.ensures.value
