use Rattle.mdcache.proofs.Common.{Contains, IsAmongOr, Leaf, NoneEnds, ending_at, leaf_of, reads_came, reads_weaker, rules, ℕ}
use Rattle.mdcache.proofs.MergeSteps.{merge_right}
use Rattle.mdcache.proofs.mdcache.MdCache.merge_leaves.Goals as goal

pub returns-in-Ok : goal.returns-in-Ok
returns-in-Ok g c =
    let its = merge_right c.args.self.now c.prepare_merge.new.self c.requires.sound c.args.at.now c.in-Ok.merge c.requires.known c.requires.can c.in-Ok.ensures.reads c.in-Ok.ensures.ready c.commit_merge.new.self c.commit_merge.ensures.merged c.commit_merge.ensures.none in
    record { merged = its.merged; tree = its.tree; undone = tt; came = its.came; refused = tt; counted = search rules; sound = its.sound }

pub returns-in-Err-clause-came : goal.returns-in-Err-clause-came
returns-in-Err-clause-came g c = reads_came _ _ c.args.self.now.objects c.args.self.now.caches c.prepare_merge.new.self.caches (reads_weaker (IsAmongOr c.args.at.now.rank.0 (ending_at c.args.self.now c.args.at.now) (leaf_of c.args.at.now)) NoneEnds (IsAmongOr c.args.at.now.rank.0 (ending_at c.args.self.now c.args.at.now) (leaf_of c.args.at.now)) (λ (r : ℕ) (q : Leaf). Contains (ending_at c.args.self.now c.args.at.now) q) (λ r q is. is) (λ r q no_end. absurd no_end) _ _ _ c.in-Err.ensures.reads.caches)
