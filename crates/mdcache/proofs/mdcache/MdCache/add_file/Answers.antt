use Rattle.mdcache.proofs.Common.{Core, NoneEnds, adds, ap, dentry_at, false, inl, sym, true, ⊎_elim, ◌∙◌, ◌≡◌}
use Rattle.mdcache.proofs.ChangesMade.{after_reads, file_done, may_still, new_fits}
use Rattle.mdcache.proofs.CoreLaws.{dir_known, not_ready_wider, one_left, reads_core_wider, there_after}
use Rattle.mdcache.proofs.PrepareLaws.{dir_live, new_recordable, one_or_two}
use Rattle.mdcache.proofs.mdcache.MdCache.add_file.Goals as goal

pub ready_name-requires-clause-live : goal.ready_name-requires-clause-live
ready_name-requires-clause-live g c = dir_live c.args.self.now c.requires.sound (dentry_at c.args.spot) c.args.spot.at.frag c.requires.may.takes.parent c.requires.may.carries.put

pub come_file-requires : goal.come_file-requires
come_file-requires g c =
    let sound = c.in-Ok.ensures.sound in
    let may = may_still _ (adds c.args.spot c.args.inode) _ _ c.ready_name.ensures.reads c.requires.may in
    record {
      there = there_after _ _ _ _ _ c.ready_name.ensures.reads c.requires.holds.put.there;
      recordable = new_recordable _ (dentry_at c.args.spot) c.args.inode c.requires.may.takes c.requires.number c.has_parts.ensures.mode c.has_parts.ensures.target;
      room = c.in-Ok.ensures.ready.room;
      version = c.in-Ok.ensures.ready.number;
      known = dir_known _ sound _ may.takes.parent;
      few = new_fits _ sound.sound c.args.spot c.args.inode may;
    }

pub returns-in-Ok : goal.returns-in-Ok
returns-in-Ok g c =
    let s = c.in-Ok.ensures.sound in
    let reads = c.ready_name.ensures.reads in
    let done = file_done c.ready_name.new.self c.come_file.new.self s.sound s.begun s.cached c.args.spot c.in-Ok.ensures.ready.room c.args.inode s.none c.requires.file c.has_parts.ensures.number (may_still _ _ _ _ reads c.requires.may) c.come_file.ensures in
    record {
      changed = after_reads _ _ _ _ (reads_core_wider _ _ NoneEnds NoneEnds _ _ (λ r q is. inl is) (λ r q no_end. no_end) reads) done;
      numbers = ⊎_elim (one_left _ _ (ap (λ (k : Core). k.next_version) reads.beside) c.in-Ok.ensures.ready.number) (λ needs. let clash : true ≡ false = sym needs.0 ∙ c.requires.file in absurd cc);
      sound = done.sound;
      counted = ap (λ (k : Core). k.faults) c.come_file.ensures ∙ c.in-Ok.ensures.counted;
    }

pub returns-in-Err-clause-changed : goal.returns-in-Err-clause-changed
returns-in-Err-clause-changed g c = (
  reads_core_wider _ _ NoneEnds NoneEnds _ _ (λ r q is. inl is) (λ r q no_end. no_end) c.ready_name.ensures.reads,
  not_ready_wider _ _ _ _ _ _ c.in-Err.refusal (λ lacks. inl lacks) (⊎_elim (λ lacks. lacks) (λ needs. let clash : true ≡ false = sym needs.0 ∙ c.requires.file in absurd cc)) (one_or_two c.args.self.now c.args.spot.at.rank) c.in-Err.ensures.refused,
)
