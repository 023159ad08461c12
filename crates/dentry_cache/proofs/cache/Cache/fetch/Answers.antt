use Rattle.dentry_cache.proofs.Common.{Held, IfErr, IsRefusedIn, None, ap, is_some, leaf_is, lookup, object_of, refl, subst, sym}
use Rattle.std.specs.Result.{result_err}
use Rattle.dentry_cache.specs.Calls.{AreFetchCalls, calls_to_load}
use Rattle.dentry_cache.specs.declared.cache.Place.{Place}
use Rattle.std.specs.Prelude.{Option}
use Rattle.dentry_cache.proofs.UsedLaws.{fetched_from, left_alone, left_from, was_absent, was_there}
use Rattle.dentry_cache.proofs.cache.Cache.fetch.Goals as goal

pub returns-clause-fetched : goal.returns-clause-fetched
returns-clause-fetched g c =
    fetched_from c.args.stay (c.args.dir, c.args.frag) (object_of (g.S.Store.objects c.args.store.now) c.args.dir c.args.frag) c.args.self.now _ _
    (left_alone (c.args.dir, c.args.frag) c.args.self.now _ _ (lookup (leaf_is (c.args.dir, c.args.frag)) c.args.self.now.entries) c.touch.ensures c.if-touch.false) _
    (was_absent (c.args.dir, c.args.frag) c.args.self.now _ _ (lookup (leaf_is (c.args.dir, c.args.frag)) c.args.self.now.entries) c.touch.ensures c.if-touch.false) c.fetch_absent.result c.fetch_absent.ensures.fetched

pub returns-clause-left : goal.returns-clause-left
returns-clause-left g c =
    left_from c.args.stay (c.args.dir, c.args.frag) (object_of (g.S.Store.objects c.args.store.now) c.args.dir c.args.frag) c.args.self.now _ _
    (left_alone (c.args.dir, c.args.frag) c.args.self.now _ _ (lookup (leaf_is (c.args.dir, c.args.frag)) c.args.self.now.entries) c.touch.ensures c.if-touch.false) _
    (was_absent (c.args.dir, c.args.frag) c.args.self.now _ _ (lookup (leaf_is (c.args.dir, c.args.frag)) c.args.self.now.entries) c.touch.ensures c.if-touch.false) c.fetch_absent.result c.fetch_absent.ensures.left

pub returns-clause-room : goal.returns-clause-room
returns-clause-room g c =
    subst (λ (h : Held). IfErr c.fetch_absent.result (IsRefusedIn c.args.stay h c.fetch_absent.new.self))
    (left_alone (c.args.dir, c.args.frag) c.args.self.now _ _ (lookup (leaf_is (c.args.dir, c.args.frag)) c.args.self.now.entries) c.touch.ensures c.if-touch.false) c.fetch_absent.ensures.room

pub returns-then-touch-clause-called : goal.returns-then-touch-clause-called
returns-then-touch-clause-called g c =
    subst (λ b. AreFetchCalls g.S.Store.IsCall b (calls_to_load c.args.frag (object_of (g.S.Store.objects c.args.store.now) c.args.dir c.args.frag)) c.args.store.now None c.args.store.now)
    (sym (was_there (c.args.dir, c.args.frag) c.args.self.now _ _ (lookup (leaf_is (c.args.dir, c.args.frag)) c.args.self.now.entries) c.touch.ensures c.if-touch.true)) refl

pub returns-clause-called : goal.returns-clause-called
returns-clause-called g c =
    subst (λ b. AreFetchCalls g.S.Store.IsCall b (calls_to_load c.args.frag (object_of (g.S.Store.objects c.args.store.now) c.args.dir c.args.frag)) c.args.store.now (result_err c.fetch_absent.result) c.fetch_absent.new.store)
    (sym (ap (λ (o : Option Place). is_some o) (was_absent (c.args.dir, c.args.frag) c.args.self.now _ _ (lookup (leaf_is (c.args.dir, c.args.frag)) c.args.self.now.entries) c.touch.ensures c.if-touch.false))) c.fetch_absent.ensures.called
