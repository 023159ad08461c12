use Rattle.dentry_cache.proofs.MapNew.{new_is, new_sound}
use Rattle.dentry_cache.proofs.caches.Caches.new.Goals as goal

pub invariant_of-result : goal.invariant_of-result
invariant_of-result c = new_sound c.args.ranks c.args.places c.in_ok-caches.caches.items c.requires.many c.in_ok-caches.ensures

pub returns : goal.returns
returns c = new_is c.args.ranks c.args.places c.in_ok-caches.caches.items c.in_ok-caches.ensures
