use Rattle.dentry_cache.proofs.Common.{Cached, HasRoom, None, here, marked}
use Rattle.dentry_cache.proofs.MapCalls.{changed_now, has_there, there_too}
use Rattle.dentry_cache.proofs.caches.Caches.erase.Goals as goal

pub erase-requires : goal.erase-requires
erase-requires c = there_too c.self.inside.caches.items c.self.inside.places c.args.at.rank.0 c.args.self.now c.self.view_is c.self.invariant c.requires.there c.index_mut.result.now c.index_mut.ensures.value (c.args.at.dir, c.args.at.frag) HasRoom c.requires.room

pub returns : goal.returns
returns c = (changed_now c.self.inside.caches.items c.self.inside.places c.args.at.rank.0 c.args.self.now c.self.view_is c.self.invariant c.requires.there c.index_mut.result.now c.index_mut.ensures.value c.erase.new.self (c.args.at.dir, c.args.at.frag) (λ (f : Cached). marked f c.args.name (record { version = c.args.version; inode = None })) (has_there (here c.args.self.now c.args.at.rank.0 (c.args.at.dir, c.args.at.frag)) c.requires.room) c.erase.ensures).0

pub invariant_of-self : goal.invariant_of-self
invariant_of-self c = (changed_now c.self.inside.caches.items c.self.inside.places c.args.at.rank.0 c.args.self.now c.self.view_is c.self.invariant c.requires.there c.index_mut.result.now c.index_mut.ensures.value c.erase.new.self (c.args.at.dir, c.args.at.frag) (λ (f : Cached). marked f c.args.name (record { version = c.args.version; inode = None })) (has_there (here c.args.self.now c.args.at.rank.0 (c.args.at.dir, c.args.at.frag)) c.requires.room) c.erase.ensures).1
