use Rattle.mdcache.proofs.Common.{Core, IfSome, Inode, IsRecordable, Option, ap, dentry_at, subst, sym, ◌∙◌}
use Rattle.mdcache.proofs.ChangesMade.{after_reads, may_still, set_done, set_listed}
use Rattle.mdcache.proofs.CoreLaws.{not_ready_wider, one_left, there_after}
use Rattle.mdcache.proofs.PrepareLaws.{entry_live, one_or_two, set_recordable, shows_entry}
use Rattle.mdcache.proofs.mdcache.MdCache.set_entry.Goals as goal

pub ready_set-requires-clause-live : goal.ready_set-requires-clause-live
ready_set-requires-clause-live g c = entry_live c.args.self.now c.requires.sound (dentry_at c.args.spot) c.args.spot.at.frag c.requires.may.takes.before c.requires.may.takes.stands c.requires.may.carries.put

pub put_altered-requires : goal.put_altered-requires
put_altered-requires g c =
    let may = c.requires.may in
    record {
      there = there_after _ _ _ _ _ c.ready_set.ensures.reads c.requires.holds.put.there;
      recordable = set_recordable _ (dentry_at c.args.spot) c.args.inode may.takes
          (subst (λ (o : Option Inode). IfSome o IsRecordable) (sym (shows_entry c.args.self.now c.requires.sound (dentry_at c.args.spot) c.args.spot.at.frag may.takes.before may.takes.stands may.carries.put)) c.in-Ok.ensures.recorded)
          c.has_parts.ensures.mode c.has_parts.ensures.target;
      room = c.in-Ok.ensures.ready.room;
      version = c.in-Ok.ensures.ready.number;
      listed = set_listed _ c.in-Ok.ensures.sound c.args.spot c.args.inode (may_still _ _ _ _ c.ready_set.ensures.reads may);
    }

pub returns-in-Ok : goal.returns-in-Ok
returns-in-Ok g c =
    let s = c.in-Ok.ensures.sound in
    let reads = c.ready_set.ensures.reads in
    let done = set_done c.ready_set.new.self c.put_altered.new.self s.sound s.begun s.cached c.args.spot c.in-Ok.ensures.ready.room c.args.inode s.none (may_still _ _ _ _ reads c.requires.may) c.put_altered.ensures in
    record { changed = after_reads _ _ _ _ reads done; numbers = one_left _ _ (ap (λ (k : Core). k.next_version) reads.beside) c.in-Ok.ensures.ready.number; sound = done.sound; counted = ap (λ (k : Core). k.faults) c.put_altered.ensures ∙ c.in-Ok.ensures.counted }

pub returns-in-Err-clause-changed : goal.returns-in-Err-clause-changed
returns-in-Err-clause-changed g c = (
  c.ready_set.ensures.reads,
  not_ready_wider _ _ _ _ _ _ c.in-Err.refusal (λ lacks. lacks) (λ lacks. lacks) (one_or_two c.args.self.now c.args.spot.at.rank) c.in-Err.ensures.refused,
)
