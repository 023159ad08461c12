use Rattle.mdcache.proofs.Common.{AreNumbers, List, Supply, [], contents, dentry_cmp, rules, subst, sym, ◌++◌, ◌+◌, ◌∷◌, ◌≡◌}
use Rattle.mdcache.proofs.NumbersMade.{no_numbers, numbers_more}
use Rattle.mdcache.proofs.mounting.numbers_of.Goals as goal

pub loop-rank-init : goal.loop-rank-init
loop-rank-init c =
    let none : c.new-numbers.result.items ≡ [] = search rules in
    subst (AreNumbers (contents dentry_cmp c.args.walked.now.entries) 0) (sym none) (no_numbers (contents dentry_cmp c.args.walked.now.entries))

pub loop-rank-preserved : goal.loop-rank-preserved
loop-rank-preserved c =
    let pushed : c.push.new.self.items ≡ c.loop-rank.numbers.items ++ (c.numbers.result ∷ []) = search rules in
    subst (λ (ss : List Supply). AreNumbers (contents dentry_cmp c.args.walked.now.entries) (c.loop-rank.rank + 1) ss) (sym pushed)
    (numbers_more (contents dentry_cmp c.args.walked.now.entries) c.loop-rank.rank c.loop-rank.numbers.items c.numbers.result c.loop-rank.invariant c.numbers.ensures.rank c.numbers.ensures.next)
