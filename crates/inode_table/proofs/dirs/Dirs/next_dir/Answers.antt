-- The first row, or the first behind a number.
use Rattle.inode_table.proofs.Common.{None, Some, [], ap, option_copied, sym, ◌∙◌, ◌∷◌}
use Rattle.inode_table.proofs.OrderLaws.{after_other, after_root}
use Rattle.inode_table.proofs.dirs.Dirs.next_dir.Goals as goal

pub returns-in_err-first : goal.returns-in_err-first
returns-in_err-first c = rw (c.from_residual.ensures, c.in-Some.is, ← c.self.view_is) (after_root _ c.in-Some.last None c.if-eq.ensures (sym (ap option_copied c.in_err-first.was) ∙ c.first.ensures))

pub returns-then-eq : goal.returns-then-eq
returns-then-eq c = rw (c.in-Some.is, ← c.self.view_is) (after_root _ c.in-Some.last (Some c.in_ok-first.field-0.now) c.if-eq.ensures (sym (ap option_copied c.in_ok-first.was) ∙ c.first.ensures))

pub returns-in_err-next : goal.returns-in_err-next
returns-in_err-next c = rw (c.from_residual-in_err-next.ensures, c.in-Some.is, ← c.self.view_is) (after_other _ c.in-Some.last [] c.if-eq.ensures (sym c.in_err-next.ensures.steps.0 ∙ c.iter_after.ensures))

pub returns : goal.returns
returns c = rw (c.in-Some.is, ← c.self.view_is) (after_other _ c.in-Some.last (c.in_ok-next.field-0.now ∷ c.next.new.self) c.if-eq.ensures (sym c.in_ok-next.ensures.steps ∙ c.iter_after.ensures))
