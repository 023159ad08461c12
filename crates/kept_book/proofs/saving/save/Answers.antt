-- What is kept is the tree after the history, and the sessions.
use Rattle.std.proofs.Common.{refl, subst, sym}
use Rattle.cold_store.specs.ColdTree.{IsColdTree}
use Rattle.mds_types.specs.Tree.{Tree}
use Rattle.objstore.specs.Objects.{Objects}
use Rattle.cluster_core.specs.State.{shown}
use Rattle.kept_book.specs.Survives.{IsOnDisk}
use Rattle.kept_book.proofs.RunLaws.{on_disk}
use Rattle.kept_book.proofs.saving.save.Goals as goal

pub returns-in-Ok-clause-on_disk : goal.returns-in-Ok-clause-on_disk
returns-in-Ok-clause-on_disk g c opening past goes =
    let shows = shown c.args.book.now.core.state in
    let now = c.in-Ok.stores.1.value in
    let took = c.in-Ok.ensures.sessions refl in
    let cold = subst (λ (o : Objects). IsColdTree o shows) (sym c.in-Ok.ensures.objects) c.in_default.ensures.cold in
    λ clean. subst (λ (t : Tree). IsOnDisk (g.T.Store.recovers now.tables) t) goes.behind.sound.replayed
    (on_disk (g.T.Store.recovers now.tables) now.objects shows (took.taken.spelled clean) cold c.has_one_cold_tree.ensures)

pub returns-in-Ok-clause-saves : goal.returns-in-Ok-clause-saves
returns-in-Ok-clause-saves g c = record {
  book = c.flush.new.book;
  done = record { flushed = c.in_default.ensures.outcome; cold = c.in_default.ensures.cold };
  sessions = c.in-Ok.ensures.sessions refl;
  stored = c.in-Ok.ensures.stored;
}

pub returns-in-Ok-clause-sound : goal.returns-in-Ok-clause-sound
returns-in-Ok-clause-sound g c = let k = c.flush.ensures.sound in (k.0, k.1, c.keep.ensures.goes_on k.0 k.1 k.2)

pub returns-in-Err-keep-clause-sound : goal.returns-in-Err-keep-clause-sound
returns-in-Err-keep-clause-sound g c = let k = c.flush.ensures.sound in (k.0, k.1, c.keep.ensures.goes_on k.0 k.1 k.2)
