use Rattle.dentry_cache.proofs.Common.{inr, object_of, on_err_weaker, on_ok_weaker}
use Rattle.dentry_cache.specs.Calls.{calls_to_load}
use Rattle.dentry_cache.proofs.CallLaws.{then_memory}
use Rattle.dentry_cache.proofs.UsedLaws.{left_with, refused_after, still_absent, takes}
use Rattle.dentry_cache.proofs.cache.Cache.fetch_absent.Goals as goal

pub hold-requires-clause-absent : goal.hold-requires-clause-absent
hold-requires-clause-absent g c = still_absent c.args.stay c.args.self.now _ (c.args.dir, c.args.frag) c.in_ok-make_room.ensures.room c.requires.absent

pub returns-clause-fetched : goal.returns-clause-fetched
returns-clause-fetched g c =
    on_ok_weaker c.hold.result (λ is. (c.in_ok-loaded.loaded, c.in_ok-loaded.ensures.loaded, takes c.args.stay (c.args.dir, c.args.frag) _ c.args.self.now _ _ c.in_ok-make_room.ensures.room is)) c.hold.ensures.ok

pub returns-clause-left : goal.returns-clause-left
returns-clause-left g c = on_err_weaker c.hold.result (λ is. left_with c.args.stay c.args.self.now _ _ c.in_ok-make_room.ensures.room is) c.hold.ensures.err

pub returns-clause-room : goal.returns-clause-room
returns-clause-room g c = refused_after c.hold.result c.args.stay c.args.self.now _ _ c.in_ok-make_room.ensures.room c.hold.ensures.err c.hold.ensures.refused

pub returns-clause-called : goal.returns-clause-called
returns-clause-called g c = inr (then_memory g.S.Store.IsCall (calls_to_load c.args.frag (object_of (g.S.Store.objects c.args.store.now) c.args.dir c.args.frag)) c.args.store.now c.load.new.store c.hold.result c.hold.ensures.refused c.in_ok-loaded.ensures.called)
