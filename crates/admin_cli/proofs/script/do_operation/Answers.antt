use Rattle.admin_cli.proofs.Common.{Some, inl, refl, rules, shown_line, subst, ◌≡◌}
use Rattle.admin_cli.proofs.Apart.{apart_behind}
use Rattle.admin_cli.proofs.Carried.{as_plain, then_forgets}
use Rattle.admin_cli.specs.Admin.{seen}
use Rattle.admin_cli.specs.Waiting.{PrintsOutput, PutsLine}
use Rattle.admin_cli.proofs.script.do_operation.Goals as goal

pub returns-then-is_ok-clause-prints : goal.returns-then-is_ok-clause-prints
returns-then-is_ok-clause-prints g c =
    let shown = shown_line c.operate-came.result in
    let put : PutsLine c.args.waiting.now c.put_step.new.self c.args.line (shown_line c.operate-came.result) = search rules in
    inl (Some shown, (shown, then_forgets c.args.mode.now.history _ (seen c.operate-came.new.self) (seen c.forget.new.self) (as_plain c.args.mode.now.asks _ _ c.requires.plain (c.operate-came.ensures.count, c.operate-came.ensures.jobs, c.operate-came.ensures.sent, c.operate-came.ensures.operated)) c.forget.ensures.forgot, refl), inl (put, refl))

pub returns-clause-prints : goal.returns-clause-prints
returns-clause-prints g c =
    let shown = shown_line c.operate-came.result in
    let same : (c.put_step.new.self.bytes.items ≡ c.args.waiting.now.bytes.items) × (c.put_step.new.self.marks.items ≡ c.args.waiting.now.marks.items) = search rules in
    inl (
      Some shown,
      (shown, then_forgets c.args.mode.now.history _ (seen c.operate-came.new.self) (seen c.forget.new.self) (as_plain c.args.mode.now.asks _ _ c.requires.plain (c.operate-came.ensures.count, c.operate-came.ensures.jobs, c.operate-came.ensures.sent, c.operate-came.ensures.operated)) c.forget.ensures.forgot, refl),
      subst (λ s. PrintsOutput c.args.waiting.now c.print_apart-printed.new.waiting c.args.line s (g.W.Write.contents c.args.writer.now) (g.W.Write.contents c.print_apart-printed.new.writer) c.print_apart-printed.result)
          c.shown_line-shown.ensures (apart_behind c.args.waiting.now c.put_step.new.self c.print_apart-printed.new.waiting c.args.line _ _ _ c.print_apart-printed.result same c.print_apart-printed.ensures),
    )
