-- A pin is kept in the directory's row, and the root has none.
use Rattle.inode_table.proofs.Common.{ap, option_copied, pin_in, sym, ◌∙◌}
use Rattle.inode_table.proofs.CountRows.{get_pin}
use Rattle.inode_table.proofs.dirs.Dirs.pin.Goals as goal

pub returns-in_err-get : goal.returns-in_err-get
returns-in_err-get c = rw (← c.self.view_is) (c.from_residual.ensures ∙ sym (get_pin _ _ ∙ ap pin_in (sym c.get.ensures ∙ ap option_copied c.in_err-get.was)))

pub returns : goal.returns
returns c = rw (← c.self.view_is) (c.pin.ensures ∙ sym (get_pin _ _ ∙ ap pin_in (sym c.get.ensures ∙ ap option_copied c.in_ok-get.was)))
