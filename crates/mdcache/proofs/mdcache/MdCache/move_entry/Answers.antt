use Rattle.mdcache.proofs.Common.{Cached, Core, HasCached, IfSome, Ino, Inode, IsRecordable, List, MayGo, MayMove, Names, Option, ap, dentry_at, here, leaf_of, length, moves, state_of, subst, sym, with_home, ℕ, ◌<◌, ◌∙◌}
use Rattle.std.specs.FinMap as map
use Rattle.cached_frag.specs.Cached.{shown_names as shown_of}
use Rattle.mdcache.proofs.ChangeLaws.{entry_known}
use Rattle.mdcache.proofs.ChangesMade.{after_reads, counts_fit, entry_moved, may_still}
use Rattle.mdcache.proofs.HomeLaws.{relocates, replaces}
use Rattle.mdcache.proofs.CoreLaws.{dir_known, of_names, there_after, two_left}
use Rattle.mdcache.proofs.PrepareLaws.{dir_live, entry_live, shows_entry}
use Rattle.mdcache.proofs.mdcache.MdCache.move_entry.Goals as goal

pub ready_move-requires-clause-from_live : goal.ready_move-requires-clause-from_live
ready_move-requires-clause-from_live g c = entry_live c.args.self.now c.requires.sound (dentry_at c.args.from) c.args.from.at.frag c.args.inode c.requires.may.takes.stands c.requires.may.carries.taken

pub ready_move-requires-clause-to_live : goal.ready_move-requires-clause-to_live
ready_move-requires-clause-to_live g c = dir_live c.args.self.now c.requires.sound (dentry_at c.args.to) c.args.to.at.frag c.requires.may.takes.parent c.requires.may.carries.put

pub pass-requires : goal.pass-requires
pass-requires g c =
    let now = c.ready_move.new.self in
    let reads = c.ready_move.ensures.reads in
    let ready = c.in-Ok.ensures in
    let may = may_still _ (moves c.args.from c.args.to c.args.inode c.args.gone) _ _ reads c.requires.may in
    record {
      first = there_after _ _ _ _ _ reads c.requires.holds.taken.there;
      second = there_after _ _ _ _ _ reads c.requires.holds.put.there;
      recordable = subst (λ (o : Option Inode). IfSome o IsRecordable) (sym (shows_entry now ready.sound (dentry_at c.args.from) c.args.from.at.frag c.args.inode may.takes.stands may.carries.taken) ∙ may.takes.stands)
          (of_names now ready.sound (λ (names : Names). (name : List ℕ) → IfSome (map.get names name) IsRecordable) c.args.from.at.rank.0 (leaf_of c.args.from.at)
          (subst (λ (k : Core). HasCached (here k.caches c.args.from.at.rank.0 (leaf_of c.args.from.at)) (λ (f : Cached). (name : List ℕ) → IfSome (map.get (shown_of f) name) IsRecordable)) c.self.view_is c.has_records.ensures) c.args.from.name);
      source = ready.source;
      target = ready.target;
      version = ready.number;
      from = entry_known (state_of now) (dentry_at c.args.from) c.args.inode ready.sound.sound may.takes.stands;
      to = dir_known now ready.sound _ may.takes.parent;
      few = counts_fit now now ready.sound c.args.from c.args.to c.args.inode c.args.gone may ready.target;
      home = λ kinded. subst (λ (name : List ℕ). MayMove now.homes c.args.inode.ino.0 (record { parent = c.args.to.at.dir; name = name })) (sym ready.named)
          (relocates (state_of now) ready.sound.sound c.args.from c.args.to c.args.inode c.args.gone may kinded);
      may = subst (λ (name : List ℕ). IfSome c.args.gone (λ (dir : Ino). MayGo (with_home now.homes (record { dir = c.args.to.at.dir; name = name }) c.args.inode) dir.0)) (sym ready.named)
          (replaces (state_of now) ready.sound.sound c.args.from c.args.to c.args.inode c.args.gone may);
      purge = ready.list;
      none = ready.sound.none;
    }

pub returns-in-Ok : goal.returns-in-Ok
returns-in-Ok g c =
    let now = c.ready_move.new.self in
    let reads = c.ready_move.ensures.reads in
    let ready = c.in-Ok.ensures in
    let may = may_still _ (moves c.args.from c.args.to c.args.inode c.args.gone) _ _ reads c.requires.may in
    let done = entry_moved now c.pass.new.self ready.sound c.args.from c.args.to c.args.inode c.args.gone may ready.source ready.target c.pass.new.self.room c.in-Ok.name ready.named c.pass.ensures.moved c.pass.ensures.none in
    record { changed = after_reads _ _ _ _ reads done; numbers = two_left _ _ (ap (λ (k : Core). k.next_version) reads.beside) ready.number; sound = done.sound; counted = ap (λ (k : Core). k.faults) c.pass.ensures.moved ∙ ready.counted }

pub returns-in-Err-clause-changed : goal.returns-in-Err-clause-changed
returns-in-Err-clause-changed g c = (c.ready_move.ensures.reads, c.in-Err.ensures.refused)

pub has_records-requires-clause-there : goal.has_records-requires-clause-there
has_records-requires-clause-there g c = subst (λ (k : Core). c.args.from.at.rank.0 < length k.caches.used) (sym c.self.view_is) (there_after _ _ _ _ _ c.ready_move.ensures.reads c.requires.holds.taken.there)
