use Rattle.mdcache.proofs.Common.{Core, ap, dentry_at, state_of, ◌∙◌}
use Rattle.mdcache.proofs.ChangeLaws.{entry_known}
use Rattle.mdcache.proofs.ChangesMade.{after_reads, may_still, removal_done}
use Rattle.mdcache.proofs.HomeLaws.{may_go}
use Rattle.mdcache.proofs.CoreLaws.{not_ready_wider, one_left, there_after}
use Rattle.mdcache.proofs.PrepareLaws.{entry_live, one_or_two}
use Rattle.mdcache.proofs.mdcache.MdCache.remove_entry.Goals as goal

pub ready_removal-requires-clause-live : goal.ready_removal-requires-clause-live
ready_removal-requires-clause-live g c = entry_live c.args.self.now c.requires.sound (dentry_at c.args.spot) c.args.spot.at.frag c.requires.may.takes.inode c.requires.may.takes.stands c.requires.may.carries.taken

pub leave-requires : goal.leave-requires
leave-requires g c =
    let now = c.ready_removal.new.self in
    let ready = c.in-Ok.ensures in
    let may = may_still _ _ _ _ c.ready_removal.ensures.reads c.requires.may in
    record {
      there = there_after _ _ _ _ _ c.ready_removal.ensures.reads c.requires.holds.taken.there;
      room = ready.ready.room;
      version = ready.ready.number;
      known = entry_known (state_of now) (dentry_at c.args.spot) may.takes.inode ready.sound.sound may.takes.stands;
      may = may_go (state_of now) c.args.spot _ ready.sound.sound may;
      purge = ready.list;
      none = ready.sound.none;
    }

pub returns-in-Ok : goal.returns-in-Ok
returns-in-Ok g c =
    let now = c.ready_removal.new.self in
    let reads = c.ready_removal.ensures.reads in
    let ready = c.in-Ok.ensures in
    let s = ready.sound in
    let done = removal_done now c.leave.new.self s.sound s.begun s.cached c.args.spot ready.ready.room c.args.gone s.none (may_still _ _ _ _ reads c.requires.may) c.leave.new.self.room c.leave.ensures.gone c.leave.ensures.none in
    record { changed = after_reads _ _ _ _ reads done; numbers = one_left _ _ (ap (λ (k : Core). k.next_version) reads.beside) ready.ready.number; sound = done.sound; counted = ap (λ (k : Core). k.faults) c.leave.ensures.gone ∙ ready.counted }

pub returns-in-Err-clause-changed : goal.returns-in-Err-clause-changed
returns-in-Err-clause-changed g c = (
  c.ready_removal.ensures.reads,
  not_ready_wider _ _ _ _ _ _ c.in-Err.refusal (λ lacks. lacks) (λ lacks. lacks) (one_or_two c.args.self.now c.args.spot.at.rank) c.in-Err.ensures.refused,
)
