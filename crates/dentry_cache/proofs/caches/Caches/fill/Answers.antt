use Rattle.dentry_cache.proofs.MapCalls.{filled_now, kept_here}
use Rattle.dentry_cache.proofs.caches.Caches.fill.Goals as goal

pub fill-requires : goal.fill-requires
fill-requires c = kept_here c.self.inside.caches.items c.self.inside.places c.args.at.rank.0 c.args.self.now c.self.view_is c.self.invariant c.requires.there c.index_mut.result.now c.index_mut.ensures.value c.index_mut.result.now (c.args.at.dir, c.args.at.frag) c.requires.place c.requires.absent

pub returns : goal.returns
returns c = (filled_now c.self.inside.caches.items c.self.inside.places c.args.at.rank.0 c.args.self.now c.self.view_is c.self.invariant c.requires.there c.index_mut.result.now c.index_mut.ensures.value c.fill.new.self (c.args.at.dir, c.args.at.frag) c.args.fragment c.fill.ensures c.requires.place c.requires.absent).0

pub invariant_of-self : goal.invariant_of-self
invariant_of-self c = (filled_now c.self.inside.caches.items c.self.inside.places c.args.at.rank.0 c.args.self.now c.self.view_is c.self.invariant c.requires.there c.index_mut.result.now c.index_mut.ensures.value c.fill.new.self (c.args.at.dir, c.args.at.frag) c.args.fragment c.fill.ensures c.requires.place c.requires.absent).1
