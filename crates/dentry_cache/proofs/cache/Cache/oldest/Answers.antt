use Rattle.dentry_cache.proofs.Common.{sym, ◌∙◌}
use Rattle.dentry_cache.proofs.CacheLaws.{oldest_found}
use Rattle.dentry_cache.proofs.cache.Cache.oldest.Goals as goal

pub returns-then-may_go : goal.returns-then-may_go
returns-then-may_go c = oldest_found c.args.stay c.args.self.now.entries _ _ _ c.loop-leaf.invariant c.in-Some.ensures.steps (sym c.if-may_go.true ∙ c.may_go.ensures)
