-- A book that resumes stands behind the stand-ins.
use Rattle.cluster_core.proofs.Common.{Core, Table, Tree, ap, shown, StandsBehind, subst, sym, ◌∙◌, ◌≡◌}
use Rattle.cluster_core.specs.Resumed.{TellsAll, resumes}
use Rattle.cluster_core.proofs.ResumedLaws.{resumed_behind}
use Rattle.cluster_core.proofs.SettledLaws.{none_known}
use Rattle.cluster_core.proofs.resuming.resume.Goals as goal

pub invariant_of-result : goal.invariant_of-result
invariant_of-result g c =
    let m = c.in-Ok in
    let told = c.requires.tells.0 in
    let tells = subst (λ (t : Table). TellsAll told t) (sym c.go_on.ensures.sessions) c.requires.tells.1 in
    record {
      sound = (
        resumes m.opening told c.args.nexts.now,
        told,
        rw c.new.ensures.items (resumed_behind m.opening told c.args.nexts.now m.cluster c.go_on.new.self m.ensures.sound c.go_on.ensures.same c.go_on.ensures.numbers tells),
      );
      settled = none_known c.go_on.new.self.state c.new-in-Ok.result.ranks.items c.new-in-Ok.ensures;
    }

pub returns-in-Ok-clause-goes_on : goal.returns-in-Ok-clause-goes_on
returns-in-Ok-clause-goes_on g c = λ told its.
    let m = c.in-Ok in
    let tells = subst (λ (t : Table). TellsAll told t) (sym c.go_on.ensures.sessions) its in
    let is : shown c.go_on.new.self.state ≡ m.opening = ap (λ (k : Core). shown k.state) c.go_on.ensures.same ∙ sym m.ensures.opening in
    rw (is, c.new.ensures.items) (resumed_behind m.opening told c.args.nexts.now m.cluster c.go_on.new.self m.ensures.sound c.go_on.ensures.same c.go_on.ensures.numbers tells)

pub returns-in-Ok-clause-sound : goal.returns-in-Ok-clause-sound
returns-in-Ok-clause-sound g c = (invariant_of-result g c).sound
