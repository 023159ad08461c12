use Rattle.dentry_cache.proofs.Common.{Held, IsDistinct, keys_of, leaf_is, length, refl, subst, ◌≤◌}
use Rattle.dentry_cache.proofs.CacheLaws.{evicted}
use Rattle.dentry_cache.proofs.UsedLaws.{freed}
use Rattle.dentry_cache.proofs.cache.Cache.drop_oldest.Goals as goal

pub returns-in-Some-clause-evicted : goal.returns-in-Some-clause-evicted
returns-in-Some-clause-evicted c = evicted c.args.stay c.args.self.now c.args.self.now _ c.in-Some.leaf refl (rw c.in-Some.is at c.oldest.ensures) (subst (λ (h : Held). IsDistinct leaf_is (keys_of h.entries)) c.self.view_is c.len.ensures.valid.distinct) c.give_up.ensures.without

pub returns-in-Some-clause-free : goal.returns-in-Some-clause-free
returns-in-Some-clause-free c = freed c.args.stay c.args.self.now _ (returns-in-Some-clause-evicted c) (subst (λ (h : Held). length h.entries ≤ h.cap) c.self.view_is c.len.ensures.valid.fits)
