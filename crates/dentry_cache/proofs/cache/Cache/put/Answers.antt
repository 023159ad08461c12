use Rattle.dentry_cache.proofs.Common.{Cached, HasRoom, Held, Option, Some, ap, cached, fragment_in, leaf_is, marked, option_copied_mut, refl, subst, sym, ◌∙◌, ◌≡◌}
use Rattle.std.specs.Map.{lookup}
use Rattle.dentry_cache.specs.declared.cache.Place.{Place}
use Rattle.dentry_cache.proofs.EditLaws.{there_with_room, written}
use Rattle.dentry_cache.proofs.SlotLaws.{room_in}
use Rattle.dentry_cache.proofs.CandidateSteps.{may_so, resized_value}
use Rattle.dentry_cache.proofs.cache.Cache.put.Goals as goal

pub put-requires-clause-room : goal.put-requires-clause-room
put-requires-clause-room c =
    let found : Some c.in-Some.place.now ≡ lookup (leaf_is (c.args.dir, c.args.frag)) c.self.inside.places.entries = ap option_copied_mut (sym c.in-Some.is) ∙ c.peek_mut.ensures.value in
    room_in c.in-Some.place.now (subst (λ (o : Option Place). HasRoom (fragment_in o)) (sym found) (subst (λ (h : Held). HasRoom (cached h.entries (c.args.dir, c.args.frag))) (sym c.self.view_is) c.requires.room))

pub returns : goal.returns
returns c =
    written (c.args.dir, c.args.frag) c.args.self.now c.self.inside.places c.self.view_is (λ (f now : Cached). now ≡ marked f c.args.name (record { version = c.args.version; inode = Some c.args.inode })) (cached c.args.self.now.entries (c.args.dir, c.args.frag)) c.in-Some.place.now _ refl
    (there_with_room (cached c.args.self.now.entries (c.args.dir, c.args.frag)) c.requires.room) (ap option_copied_mut (sym c.in-Some.is) ∙ c.peek_mut.ensures.value) c.put.ensures.marked

pub resize-requires : goal.resize-requires
resize-requires c =
    let found : Some c.in-Some.place.now ≡ lookup (leaf_is (c.args.dir, c.args.frag)) c.self.inside.places.entries = ap option_copied_mut (sym c.in-Some.is) ∙ c.peek_mut.ensures.value in
    may_so (c.args.dir, c.args.frag) _ _ _ _ _ c.self.inside.candidates c.size-was.ensures c.size-now.ensures (resized_value (c.args.dir, c.args.frag) c.self.inside.places.entries c.in-Some.place.now _ c.self.inside.candidates c.self.invariant found)
