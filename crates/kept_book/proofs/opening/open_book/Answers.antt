-- The book goes on from the rows that were read.
use Rattle.std.proofs.Common.{subst, sym}
use Rattle.mds_types.specs.Tree.{Tree}
use Rattle.objstore.specs.Objects.{Objects}
use Rattle.mdcache.specs.Mounted.{IsColdTree}
use Rattle.keeping.specs.Rows.{SessionRows}
use Rattle.sessions.specs.Rooms.{table}
use Rattle.sessions.specs.Stored.{stand_ins}
use Rattle.session_rows.specs.Restoring.{RefusesRows}
use Rattle.session_rows.specs.Sessions.{SpellsSessions}
use Rattle.cluster_core.specs.KeptSessions.{Continue, TellsBut}
use Rattle.cluster_core.specs.Resumed.{TellsAll, resumes}
use Rattle.cluster_core.specs.State.{shown}
use Rattle.kept_book.proofs.opening.open_book.Goals as goal

pub resume-requires-clause-tells : goal.resume-requires-clause-tells
resume-requires-clause-tells g c =
    let read = c.in-Ok-restore.ensures in
    (stand_ins read.stored, record { table = read.restored.tabled; aside = read.restored.aside })

pub returns-in-Err-restore-clause-refused : goal.returns-in-Err-restore-clause-refused
returns-in-Err-restore-clause-refused g c = λ honest rows stored.
    subst (λ (r : SessionRows). RefusesRows r c.in-Err-restore.fault) (c.in-Ok.ensures.alone (honest c.session_rows.new.self.tables) rows stored) c.in-Err-restore.ensures

pub returns-in-Ok-resume-clause-cold : goal.returns-in-Ok-resume-clause-cold
returns-in-Ok-resume-clause-cold g c =
    subst (λ (o : Objects). IsColdTree o (shown c.in-Ok-resume.book.core.state)) c.session_rows.ensures.objects c.in-Ok-resume.ensures.cold

pub returns-in-Ok-resume-clause-goes_on : goal.returns-in-Ok-resume-clause-goes_on
returns-in-Ok-resume-clause-goes_on g c = λ honest rows stored.
    let read = c.in-Ok-restore.ensures in
    let nexts = c.in-Ok-restore.restored.nexts in
    let told = stand_ins read.stored in
    let core = c.in-Ok-resume.book.core in
    let spelled = subst (λ (r : SessionRows). SpellsSessions r read.stored nexts) (c.in-Ok.ensures.alone (honest c.session_rows.new.self.tables) rows stored) read.spelled in
    record {
      stored = read.stored;
      nexts = nexts;
      spelled = spelled;
      stands = c.in-Ok-resume.ensures.goes_on told (record { table = read.restored.tabled; aside = read.restored.aside });
      continues = λ opening history legal same all.
          subst (λ (t : Tree). Continue core.state.tree.limit opening history (resumes t told nexts) told) (sym same)
          (c.stored_sessions_go_on.ensures.goes_on core.state.tree.limit opening history rows read.stored nexts (table c.in-Ok-restore.restored.sessions) legal all spelled read.restored);
      told = λ opening history legal same all.
          subst (λ (t : Tree). TellsBut rows (resumes t told nexts) told core) (sym same)
          (c.stored_sessions_go_on.ensures.told core.state.tree.limit opening history rows read.stored nexts (table c.in-Ok-restore.restored.sessions) legal all spelled read.restored core);
    }
