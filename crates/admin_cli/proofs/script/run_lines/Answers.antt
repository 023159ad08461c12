use Rattle.admin_cli.proofs.Common.{DoesBytes, Err, List, Ok, PrintsOf, arith, refl, subst, ℕ, ◌≡◌}
use Rattle.admin_cli.proofs.LeavesLaws.{leaves_all, leaves_at, leaves_here}
use Rattle.admin_cli.proofs.Progress.{begin, finish, line_on, line_stops, settled, stop_long, stop_reading, stop_settling}
use Rattle.admin_cli.specs.Modes.{DoesUnder}
use Rattle.admin_cli.specs.Admin.{seen}
use Rattle.admin_cli.proofs.script.run_lines.Goals as goal

pub loop-line-init : goal.loop-line-init
loop-line-init g c = record { few = omega arith; reached = begin (DoesUnder c.args.mode.now) _ _ _ _ _ c.requires.empty.0 c.requires.empty.1 }

pub returns-in-Err-clause-runs : goal.returns-in-Err-clause-runs
returns-in-Err-clause-runs g c = stop_settling (DoesUnder c.args.mode.now) _ _ _ _ _ _ _ c.loop-line.waiting c.settle.new.self _ c.loop-line.invariant.reached c.in-Err.fault c.in-Err.ensures

pub returns-in-Ok-End-clause-runs : goal.returns-in-Ok-End-clause-runs
returns-in-Ok-End-clause-runs g c =
    finish (DoesUnder c.args.mode.now) _ _ _ _ _ _ c.settle.new.self _ (settled (DoesUnder c.args.mode.now) _ _ _ _ _ _ _ c.loop-line.waiting c.settle.new.self _ c.loop-line.invariant.reached c.in_default.field-0 c.in_default.ensures)
    (rw c.in-Ok-End.field-0-is at c.in-Ok-End.ensures.line)

pub returns-in-Err-TooLong-clause-runs : goal.returns-in-Err-TooLong-clause-runs
returns-in-Err-TooLong-clause-runs g c =
    stop_long (DoesUnder c.args.mode.now) _ _ _ _ _ _ c.settle.new.self _ (settled (DoesUnder c.args.mode.now) _ _ _ _ _ _ _ c.loop-line.waiting c.settle.new.self _ c.loop-line.invariant.reached c.in_default.field-0 c.in_default.ensures)
    (rw c.in-Err-TooLong.field-0-is at c.in-Err-TooLong.ensures.line)

pub returns-in-Err-Fault-clause-runs : goal.returns-in-Err-Fault-clause-runs
returns-in-Err-Fault-clause-runs g c =
    stop_reading (DoesUnder c.args.mode.now) _ _ _ _ _ _ c.settle.new.self _ (settled (DoesUnder c.args.mode.now) _ _ _ _ _ _ _ c.loop-line.waiting c.settle.new.self _ c.loop-line.invariant.reached c.in_default.field-0 c.in_default.ensures)

pub returns-in-Err-run_line-clause-runs : goal.returns-in-Err-run_line-clause-runs
returns-in-Err-run_line-clause-runs g c =
    line_stops (DoesUnder c.args.mode.now) _ _ (seen c.run_line.new.admin) _ _ _ _ _ _ c.settle.new.self c.run_line.new.waiting _ c.next_line.new.line.line
    (settled (DoesUnder c.args.mode.now) _ _ _ _ _ _ _ c.loop-line.waiting c.settle.new.self _ c.loop-line.invariant.reached c.in_default.field-0 c.in_default.ensures) (rw c.in-Ok-Read.field-0-is at c.in-Ok-Read.ensures.line)
    c.in-Err-run_line.fault
    (subst (λ (b : List ℕ). PrintsOf (DoesBytes (DoesUnder c.args.mode.now) (seen c.loop-line.admin) (seen c.run_line.new.admin) b) c.settle.new.self c.run_line.new.waiting c.loop-line.line (g.W.Write.contents c.settle.new.writer) (g.W.Write.contents c.run_line.new.writer) (Err c.in-Err-run_line.fault)) c.as_bytes.ensures.bytes c.in-Err-run_line.ensures.runs)

pub returns-clause-runs : goal.returns-clause-runs
returns-clause-runs g c =
    let last : c.loop-line.line ≡ c.last_line-last.result = omega (arith, c.loop-line.auto.line-end, c.loop-line-test.false) in
    stop_reading (DoesUnder c.args.mode.now) (seen c.args.admin.now) (seen c.loop-line.admin) (g.R.Read.remaining c.args.reader.now) (g.R.Read.remaining c.loop-line.reader) (g.W.Write.contents c.args.writer.now)
    (g.W.Write.contents c.loop-line.writer) c.loop-line.waiting c.last_line-last.result (rw last at c.loop-line.invariant.reached)

pub loop-line-preserved : goal.loop-line-preserved
loop-line-preserved g c = record {
  few = omega (arith, c.run_line.ensures.count, c.loop-line.invariant.few);
  reached = line_on (DoesUnder c.args.mode.now) _ _ _ _ _ _ _ _ _ c.settle.new.self c.run_line.new.waiting _ c.next_line.new.line.line
      (settled (DoesUnder c.args.mode.now) _ _ _ _ _ _ _ c.loop-line.waiting c.settle.new.self _ c.loop-line.invariant.reached c.in_default.field-0 c.in_default.ensures) (rw c.in-Ok-Read.field-0-is at c.in-Ok-Read.ensures.line)
      c.in_default-run_line.field-0
      (subst (λ (b : List ℕ). PrintsOf (DoesBytes (DoesUnder c.args.mode.now) (seen c.loop-line.admin) (seen c.run_line.new.admin) b) c.settle.new.self c.run_line.new.waiting c.loop-line.line (g.W.Write.contents c.settle.new.writer) (g.W.Write.contents c.run_line.new.writer) (Ok c.in_default-run_line.field-0)) c.as_bytes.ensures.bytes c.in_default-run_line.ensures.runs);
}

pub returns-in-Err-clause-leaves : goal.returns-in-Err-clause-leaves
returns-in-Err-clause-leaves g c = leaves_here (DoesUnder c.args.mode.now) _ _ _ _ _ _ _ _ _ c.loop-line.invariant.reached _ _ c.in-Err.fault

pub returns-in-Ok-End-clause-leaves : goal.returns-in-Ok-End-clause-leaves
returns-in-Ok-End-clause-leaves g c =
    leaves_all (DoesUnder c.args.mode.now) _ _ _ _ _ _ _ _ _ (settled (DoesUnder c.args.mode.now) _ _ _ _ _ _ _ c.loop-line.waiting c.settle.new.self _ c.loop-line.invariant.reached c.in_default.field-0 c.in_default.ensures) c.settle.new.self refl
    (rw c.in-Ok-End.field-0-is at c.in-Ok-End.ensures.line)

pub returns-in-Err-TooLong-clause-leaves : goal.returns-in-Err-TooLong-clause-leaves
returns-in-Err-TooLong-clause-leaves g c = leaves_here (DoesUnder c.args.mode.now) _ _ _ _ _ _ _ _ _ (settled (DoesUnder c.args.mode.now) _ _ _ _ _ _ _ c.loop-line.waiting c.settle.new.self _ c.loop-line.invariant.reached c.in_default.field-0 c.in_default.ensures) _ _ _

pub returns-in-Err-Fault-clause-leaves : goal.returns-in-Err-Fault-clause-leaves
returns-in-Err-Fault-clause-leaves g c = leaves_here (DoesUnder c.args.mode.now) _ _ _ _ _ _ _ _ _ (settled (DoesUnder c.args.mode.now) _ _ _ _ _ _ _ c.loop-line.waiting c.settle.new.self _ c.loop-line.invariant.reached c.in_default.field-0 c.in_default.ensures) _ _ _

pub returns-in-Err-run_line-clause-leaves : goal.returns-in-Err-run_line-clause-leaves
returns-in-Err-run_line-clause-leaves g c =
    leaves_at (DoesUnder c.args.mode.now) _ _ _ _ _ _ _ _ _ (settled (DoesUnder c.args.mode.now) _ _ _ _ _ _ _ c.loop-line.waiting c.settle.new.self _ c.loop-line.invariant.reached c.in_default.field-0 c.in_default.ensures) (seen c.run_line.new.admin) _ c.next_line.new.line.line
    (rw c.in-Ok-Read.field-0-is at c.in-Ok-Read.ensures.line) c.settle.new.self c.run_line.new.waiting _ c.loop-line.line (g.W.Write.contents c.settle.new.writer) (g.W.Write.contents c.run_line.new.writer) _ c.in-Err-run_line.fault (Err c.in-Err-run_line.fault)
    (subst (λ (b : List ℕ). PrintsOf (DoesBytes (DoesUnder c.args.mode.now) (seen c.loop-line.admin) (seen c.run_line.new.admin) b) c.settle.new.self c.run_line.new.waiting c.loop-line.line (g.W.Write.contents c.settle.new.writer) (g.W.Write.contents c.run_line.new.writer) (Err c.in-Err-run_line.fault)) c.as_bytes.ensures.bytes c.in-Err-run_line.ensures.runs)

pub returns-clause-leaves : goal.returns-clause-leaves
returns-clause-leaves g c = leaves_here (DoesUnder c.args.mode.now) _ _ _ _ _ _ _ _ _ c.loop-line.invariant.reached _ _ _
