use Rattle.dentry_cache.proofs.Common.{IfErr-weaker, has_place, object_of, on_err_weaker, on_ok_weaker, refl, subst, sym}
use Rattle.dentry_cache.proofs.MapCalls.{all_caches, fetched_there, fetch_refused, fetch_sound, fetched_now, placed_is, refused_now, unfetched_now}
use Rattle.std.specs.Result.{result_err}
use Rattle.dentry_cache.specs.Calls.{AreFetchCalls, calls_to_load}
use Rattle.dentry_cache.proofs.caches.Caches.fetch.Goals as goal

pub returns-clause-fetched : goal.returns-clause-fetched
returns-clause-fetched g c = on_ok_weaker c.fetch.result (λ is. (fetched_now c.self.inside.caches.items c.self.inside.places c.args.at.rank.0 c.args.self.now c.self.view_is c.self.invariant c.requires.there c.index_mut.result.now c.index_mut.ensures.value c.fetch.new.self c.args.stay (c.args.at.dir, c.args.at.frag) (object_of (g.S.Store.objects c.args.store.now) c.args.at.dir c.args.at.frag) c.requires.free is).0) c.fetch.ensures.fetched

pub returns-clause-absent : goal.returns-clause-absent
returns-clause-absent g c = on_err_weaker c.fetch.result (λ is. (unfetched_now c.self.inside.caches.items c.self.inside.places c.args.at.rank.0 c.args.self.now c.self.view_is c.self.invariant c.requires.there c.index_mut.result.now c.index_mut.ensures.value c.fetch.new.self c.args.stay (c.args.at.dir, c.args.at.frag) (object_of (g.S.Store.objects c.args.store.now) c.args.at.dir c.args.at.frag) c.requires.free is).0) c.fetch.ensures.left

pub returns-clause-left : goal.returns-clause-left
returns-clause-left g c = on_err_weaker c.fetch.result (λ is. (unfetched_now c.self.inside.caches.items c.self.inside.places c.args.at.rank.0 c.args.self.now c.self.view_is c.self.invariant c.requires.there c.index_mut.result.now c.index_mut.ensures.value c.fetch.new.self c.args.stay (c.args.at.dir, c.args.at.frag) (object_of (g.S.Store.objects c.args.store.now) c.args.at.dir c.args.at.frag) c.requires.free is).1) c.fetch.ensures.left

pub returns-clause-refused : goal.returns-clause-refused
returns-clause-refused g c = IfErr-weaker c.fetch.result _ _ (λ reason is. fetch_refused c.self.inside.caches.items c.self.inside.places c.args.at.rank.0 c.args.self.now c.self.view_is c.self.invariant c.requires.there c.index_mut.result.now c.index_mut.ensures.value c.fetch.new.self c.args.stay (c.args.at.dir, c.args.at.frag) (object_of (g.S.Store.objects c.args.store.now) c.args.at.dir c.args.at.frag) c.requires.free (g.S.Store.faults c.args.store.now) (g.S.Store.faults c.fetch.new.store) reason is) c.fetch.ensures.refused

pub invariant_of-self : goal.invariant_of-self
invariant_of-self g c = fetch_sound c.self.inside.caches.items c.self.inside.places c.args.at.rank.0 c.args.self.now c.self.view_is c.self.invariant c.requires.there c.index_mut.result.now c.index_mut.ensures.value c.fetch.new.self c.args.stay (c.args.at.dir, c.args.at.frag) (object_of (g.S.Store.objects c.args.store.now) c.args.at.dir c.args.at.frag) c.requires.free c.fetch.result c.fetch.ensures.fetched c.fetch.ensures.left

pub returns-clause-cached : goal.returns-clause-cached
returns-clause-cached g c = on_ok_weaker c.fetch.result (λ is. fetched_there c.args.at.rank.0 (c.args.at.dir, c.args.at.frag) c.args.stay (object_of (g.S.Store.objects c.args.store.now) c.args.at.dir c.args.at.frag) c.args.self.now _ c.requires.whole (has_place c.args.self.now c.args.at.rank.0 (c.args.at.dir, c.args.at.frag)) refl (fetched_now c.self.inside.caches.items c.self.inside.places c.args.at.rank.0 c.args.self.now c.self.view_is c.self.invariant c.requires.there c.index_mut.result.now c.index_mut.ensures.value c.fetch.new.self c.args.stay (c.args.at.dir, c.args.at.frag) (object_of (g.S.Store.objects c.args.store.now) c.args.at.dir c.args.at.frag) c.requires.free is).0) c.fetch.ensures.fetched

pub returns-clause-valid : goal.returns-clause-valid
returns-clause-valid g c = all_caches c.self.inside.caches.items c.self.inside.places c.args.self.now c.self.view_is c.self.invariant

pub returns-clause-room : goal.returns-clause-room
returns-clause-room g c = IfErr-weaker c.fetch.result _ _ (λ reason is. refused_now c.self.inside.caches.items c.self.inside.places c.args.at.rank.0 c.args.self.now c.self.view_is c.self.invariant c.requires.there c.index_mut.result.now c.index_mut.ensures.value c.fetch.new.self c.args.stay reason is) c.fetch.ensures.room

pub returns-clause-called : goal.returns-clause-called
returns-clause-called g c = subst (λ b. AreFetchCalls g.S.Store.IsCall b (calls_to_load c.args.at.frag (object_of (g.S.Store.objects c.args.store.now) c.args.at.dir c.args.at.frag)) c.args.store.now (result_err c.fetch.result) c.fetch.new.store) (sym (placed_is c.self.inside.caches.items c.self.inside.places c.args.at.rank.0 c.args.self.now c.self.view_is c.self.invariant c.requires.there c.index_mut.result.now c.index_mut.ensures.value (c.args.at.dir, c.args.at.frag))) c.fetch.ensures.called
