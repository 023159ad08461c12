use Rattle.mdcache.proofs.Common.{Contains, Core, IsAmongOr, Leaf, List, NoneEnds, ReadsCore, ap, ending_at, leaf_of, leaves_in, leaves_of, rules, state_of, subst, ◌∙◌}
use Rattle.mdcache.proofs.CoreLaws.{grown_refused, grown_sound, reads_core_on, reads_sound_so, reads_state, still_absent, there_after}
use Rattle.mdcache.proofs.JoinLaws.{itself_apart}
use Rattle.mdcache.proofs.JoinSteps.{hold_on, live_on}
use Rattle.mdcache.proofs.MergeSteps.{ending_live, ending_or_it, merged_nowhere}
use Rattle.mdcache.proofs.RegroupReady.{room_reads}
use Rattle.mdcache.proofs.mdcache.MdCache.prepare_merge.Goals as goal

pub returns-in-Err : goal.returns-in-Err
returns-in-Err g c =
    let room = room_reads c.args.self.now c.plan_merge.new.self c.plan_merge.ensures.left c.plan_merge.ensures.room in
    let sound = grown_sound c.args.self.now c.plan_merge.new.self room c.requires.sound (ap (λ (k : Core). k.caches) c.plan_merge.ensures.left) in
    record { ready = tt; only = tt; reads = room _ _; sound = sound; undone = ap state_of c.plan_merge.ensures.left; refused = search rules; counted = search rules }

pub join_names-requires : goal.join_names-requires
join_names-requires g c =
    let room = room_reads c.args.self.now c.plan_merge.new.self c.plan_merge.ensures.left c.plan_merge.ensures.room in
    let sound = grown_sound c.args.self.now c.plan_merge.new.self room c.requires.sound (ap (λ (k : Core). k.caches) c.plan_merge.ensures.left) in
    let ending = ap (leaves_in c.args.at.now.dir) c.deref.ensures.value ∙ ap (leaves_in c.args.at.now.dir) c.in-Ok.ensures.planned.leaves ∙ ap (λ (k : Core). ending_at k c.args.at.now) c.plan_merge.ensures.left in
    record {
      sound = sound;
      none = sound.none;
      there = there_after NoneEnds NoneEnds c.args.self.now c.plan_merge.new.self c.args.at.now.rank.0 (room _ _) c.requires.there;
      live = λ q among.
          let a : Contains (ending_at c.args.self.now c.args.at.now) q = subst (λ (ls : List Leaf). Contains ls q) ending among in
          let live = ending_live c.args.self.now c.requires.sound c.args.at.now c.requires.known c.requires.can q a in
          (live_on NoneEnds NoneEnds c.args.self.now c.plan_merge.new.self (room _ _) q live, hold_on NoneEnds NoneEnds c.args.self.now c.plan_merge.new.self (room _ _) c.requires.sound (record { dir = q.0; frag = q.1; rank = c.args.at.now.rank }) (λ r no_use. absurd no_use) live (c.requires.holds q a));
      absent = still_absent NoneEnds NoneEnds c.args.self.now c.plan_merge.new.self (leaf_of c.args.at.now) (room _ _) (λ r no_use. no_use) (merged_nowhere c.args.self.now c.requires.sound c.args.at.now c.requires.known c.requires.can);
      apart = λ among. itself_apart c.args.at.now.dir c.args.at.now.frag (leaves_of c.args.self.now.covers c.args.at.now.dir.0) (subst (λ (ls : List Leaf). Contains ls (leaf_of c.args.at.now)) ending among);
    }

pub returns-in-Ok-join_names-clause-reads : goal.returns-in-Ok-join_names-clause-reads
returns-in-Ok-join_names-clause-reads g c =
    let ending = ap (leaves_in c.args.at.now.dir) c.deref.ensures.value ∙ ap (leaves_in c.args.at.now.dir) c.in-Ok.ensures.planned.leaves ∙ ap (λ (k : Core). ending_at k c.args.at.now) c.plan_merge.ensures.left in
    reads_core_on _ _ c.args.self.now c.plan_merge.new.self c.join_names.new.self (room_reads c.args.self.now c.plan_merge.new.self c.plan_merge.ensures.left c.plan_merge.ensures.room _ _)
    (subst (λ (ls : List Leaf). ReadsCore (IsAmongOr c.args.at.now.rank.0 ls (leaf_of c.args.at.now)) NoneEnds c.plan_merge.new.self c.join_names.new.self) ending c.join_names.ensures.reads)

pub returns-in-Err-join_names : goal.returns-in-Err-join_names
returns-in-Err-join_names g c =
    let room = room_reads c.args.self.now c.plan_merge.new.self c.plan_merge.ensures.left c.plan_merge.ensures.room in
    let ending = ap (leaves_in c.args.at.now.dir) c.deref.ensures.value ∙ ap (leaves_in c.args.at.now.dir) c.in-Ok.ensures.planned.leaves ∙ ap (λ (k : Core). ending_at k c.args.at.now) c.plan_merge.ensures.left in
    let reads = reads_core_on _ _ c.args.self.now c.plan_merge.new.self c.join_names.new.self (room _ _)
    (subst (λ (ls : List Leaf). ReadsCore (IsAmongOr c.args.at.now.rank.0 ls (leaf_of c.args.at.now)) NoneEnds c.plan_merge.new.self c.join_names.new.self) ending c.join_names.ensures.reads) in
    let sound = reads_sound_so _ _ c.args.self.now c.join_names.new.self reads c.requires.sound (ending_or_it c.args.self.now c.requires.sound c.args.at.now c.requires.known c.requires.can c.join_names.new.self.caches c.join_names.ensures.absent) c.in-Err-join_names.ensures.none in
    let undone = reads_state _ _ c.args.self.now c.join_names.new.self reads in
    let refused = grown_refused c.args.self.now c.plan_merge.new.self room c.requires.sound 1 c.args.at.now.rank.0 c.join_names.new.self.faults c.in-Err-join_names.refusal (ap (λ (k : Core). k.faults) c.plan_merge.ensures.left) c.in-Err-join_names.ensures.refused in
    search (rules, reads, sound, undone, refused)
