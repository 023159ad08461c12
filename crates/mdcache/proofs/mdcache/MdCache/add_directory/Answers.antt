use Rattle.mdcache.proofs.Common.{Core, IsSound, List, MayCome, NoneEnds, State, adds, ap, dentry_at, inl, inr, known_is, may_come, subst, sym, ℕ, ⊎_elim, ◌<◌, ◌∙◌}
use Rattle.mdcache.proofs.ChangesMade.{after_reads, directory_done, may_still, new_fits}
use Rattle.mdcache.proofs.CoreLaws.{not_ready_wider, one_left, reads_core_wider, reads_state, there_after}
use Rattle.mdcache.proofs.PrepareLaws.{dir_live, new_recordable}
use Rattle.mdcache.proofs.mdcache.MdCache.add_directory.Goals as goal

pub ready_directory-requires-clause-live : goal.ready_directory-requires-clause-live
ready_directory-requires-clause-live g c = dir_live c.args.self.now c.requires.sound (dentry_at c.args.spot) c.args.spot.at.frag c.requires.may.takes.parent c.requires.may.carries.put

pub come_directory-requires : goal.come_directory-requires
come_directory-requires g c =
    let reads = c.ready_directory.ensures.reads in
    let sound = subst IsSound (sym (reads_state _ _ _ _ reads)) c.requires.sound.sound in
    let may = may_still _ (adds c.args.spot c.args.inode) _ _ reads c.requires.may in
    let ready = c.in-Ok.ensures in
    record {
      there = there_after _ _ _ _ _ reads c.requires.holds.put.there;
      recordable = new_recordable _ (dentry_at c.args.spot) c.args.inode c.requires.may.takes c.requires.number c.has_parts.ensures.mode c.has_parts.ensures.target;
      room = ready.ready.room;
      version = ready.ready.number;
      home = ready.place.home;
      known = known_is _ c.ready_directory.new.self.homes sound.tabled _ ∙ may.takes.parent;
      few = new_fits _ sound c.args.spot c.args.inode may;
      may = subst (λ (name : List ℕ). MayCome c.ready_directory.new.self.homes c.args.inode.ino.0 (record { parent = c.args.spot.at.dir; name = name })) (sym ready.named)
          (may_come _ c.ready_directory.new.self.homes (dentry_at c.args.spot) c.args.inode sound.tabled may.takes);
      place = ready.place.place;
      generation = ready.place.generation;
    }

pub returns-in-Ok : goal.returns-in-Ok
returns-in-Ok g c =
    let reads = c.ready_directory.ensures.reads in
    let same = sym (reads_state _ _ _ _ reads) in
    let ready = c.in-Ok.ensures in
    let done = directory_done c.ready_directory.new.self c.come_directory.new.self (subst IsSound same c.requires.sound.sound) (subst (λ (s : State). 0 < s.next_generation) same c.requires.sound.begun) ready.cached
    c.args.spot ready.ready.room c.args.inode ready.only ready.place.place c.requires.directory c.has_parts.ensures.number (there_after _ _ _ _ _ reads c.requires.holds.put.there) (may_still _ _ _ _ reads c.requires.may)
    c.come_directory.new.self.room c.in-Ok.name ready.named c.come_directory.ensures in
    record {
      changed = after_reads _ _ _ _ (reads_core_wider _ _ NoneEnds NoneEnds _ _ (λ r q. ⊎_elim inl (λ first. inr (c.requires.directory, first))) (λ r q no_end. no_end) reads) done;
      numbers = ⊎_elim (one_left _ _ (ap (λ (k : Core). k.next_version) reads.beside) ready.ready.number) (λ needs. one_left _ _ (ap (λ (k : Core). k.next_generation) reads.beside) ready.place.generation needs.1);
      sound = done.sound;
      counted = ap (λ (k : Core). k.faults) c.come_directory.ensures ∙ ready.counted;
    }

pub returns-in-Err-clause-changed : goal.returns-in-Err-clause-changed
returns-in-Err-clause-changed g c = (
  reads_core_wider _ _ NoneEnds NoneEnds _ _ (λ r q. ⊎_elim inl (λ first. inr (c.requires.directory, first))) (λ r q no_end. no_end) c.ready_directory.ensures.reads,
  not_ready_wider _ _ _ _ _ _ c.in-Err.refusal (⊎_elim inl (λ lacks. inr (c.requires.directory, lacks))) (⊎_elim inl (λ needs. inr needs.1)) (λ lacks. lacks) c.in-Err.ensures.refused,
)
