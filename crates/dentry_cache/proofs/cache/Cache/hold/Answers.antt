use Rattle.dentry_cache.proofs.SlotLaws.{put_over}
use Rattle.dentry_cache.proofs.Common.{AreTold, Held, rules, sizes_of, subst, sym}
use Rattle.dentry_cache.proofs.CandidateSteps.{resized_taken}
use Rattle.dentry_cache.proofs.cache.Cache.hold.Goals as goal

pub returns-in-Ok-clause-ok : goal.returns-in-Ok-clause-ok
returns-in-Ok-clause-ok c = put_over (c.args.dir, c.args.frag) c.args.place c.args.self.now _ _ c.self.view_is c.in-Ok.ensures.put

pub invariant_of-self : goal.invariant_of-self
invariant_of-self c = record { sets = c.reserve.ensures.same (sizes_of c.self.inside.places.entries) c.self.invariant.sets; room = c.reserve.ensures.kept _ c.self.invariant.room }

pub resize-requires : goal.resize-requires
resize-requires c =
    resized_taken (c.args.dir, c.args.frag) c.args.place c.args.self.now c.self.inside.places c.put.new.self c.self.inside.candidates c.reserve.new.self _ _ c.self.view_is
    (c.reserve.ensures.same (sizes_of c.self.inside.places.entries) c.self.invariant.sets) c.in_ok-reserve.ensures.room (search rules) c.requires.absent
    (put_over (c.args.dir, c.args.frag) c.args.place c.args.self.now _ _ c.self.view_is c.in-Ok.ensures.put) (search rules)

pub invariant_of-self-in-Err : goal.invariant_of-self-in-Err
invariant_of-self-in-Err c =
    subst (λ (h : Held). AreTold h.entries c.reserve.new.self) (sym c.in-Err.ensures.err)
    (record { sets = c.reserve.ensures.same (sizes_of c.self.inside.places.entries) c.self.invariant.sets; room = c.reserve.ensures.kept _ c.self.invariant.room })
