use Rattle.dentry_cache.proofs.Common.{IfErr-weaker, on_err_weaker, on_ok_weaker}
use Rattle.dentry_cache.proofs.MapCalls.{all_caches, keep_refused, keep_sound, kept_now, may_room, no_place_is, refused_now}
use Rattle.dentry_cache.proofs.caches.Caches.keep.Goals as goal

pub keep-requires : goal.keep-requires
keep-requires c = no_place_is c.self.inside.caches.items c.self.inside.places c.args.at.rank.0 c.args.self.now c.self.view_is c.self.invariant c.requires.there c.index_mut.result.now c.index_mut.ensures.value (c.args.at.dir, c.args.at.frag) c.requires.absent

pub returns-clause-kept : goal.returns-clause-kept
returns-clause-kept c = on_ok_weaker c.keep.result (λ is. (kept_now c.self.inside.caches.items c.self.inside.places c.args.at.rank.0 c.args.self.now c.self.view_is c.self.invariant c.requires.there c.index_mut.result.now c.index_mut.ensures.value c.keep.new.self c.args.stay (c.args.at.dir, c.args.at.frag) (no_place_is c.self.inside.caches.items c.self.inside.places c.args.at.rank.0 c.args.self.now c.self.view_is c.self.invariant c.requires.there c.index_mut.result.now c.index_mut.ensures.value (c.args.at.dir, c.args.at.frag) c.requires.absent) is).0) c.keep.ensures.kept

pub returns-clause-left : goal.returns-clause-left
returns-clause-left c = on_err_weaker c.keep.result (λ is. (may_room c.self.inside.caches.items c.self.inside.places c.args.at.rank.0 c.args.self.now c.self.view_is c.self.invariant c.requires.there c.index_mut.result.now c.index_mut.ensures.value c.keep.new.self c.args.stay is).0) c.keep.ensures.left

pub returns-clause-refused : goal.returns-clause-refused
returns-clause-refused c = IfErr-weaker c.keep.result _ _ (λ reason is. keep_refused c.self.inside.caches.items c.self.inside.places c.args.at.rank.0 c.args.self.now c.self.view_is c.self.invariant c.requires.there c.index_mut.result.now c.index_mut.ensures.value c.keep.new.self c.args.stay (c.args.at.dir, c.args.at.frag) reason is) c.keep.ensures.refused

pub invariant_of-self : goal.invariant_of-self
invariant_of-self c = keep_sound c.self.inside.caches.items c.self.inside.places c.args.at.rank.0 c.args.self.now c.self.view_is c.self.invariant c.requires.there c.index_mut.result.now c.index_mut.ensures.value c.keep.new.self c.args.stay (c.args.at.dir, c.args.at.frag) c.keep.result (no_place_is c.self.inside.caches.items c.self.inside.places c.args.at.rank.0 c.args.self.now c.self.view_is c.self.invariant c.requires.there c.index_mut.result.now c.index_mut.ensures.value (c.args.at.dir, c.args.at.frag) c.requires.absent) c.keep.ensures.kept c.keep.ensures.left

pub returns-clause-valid : goal.returns-clause-valid
returns-clause-valid c = all_caches c.self.inside.caches.items c.self.inside.places c.args.self.now c.self.view_is c.self.invariant

pub returns-clause-room : goal.returns-clause-room
returns-clause-room c = IfErr-weaker c.keep.result _ _ (λ reason is. refused_now c.self.inside.caches.items c.self.inside.places c.args.at.rank.0 c.args.self.now c.self.view_is c.self.invariant c.requires.there c.index_mut.result.now c.index_mut.ensures.value c.keep.new.self c.args.stay reason is) c.keep.ensures.room
