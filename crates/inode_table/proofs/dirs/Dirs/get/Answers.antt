-- A directory stands where its row says, and the root nowhere.
use Rattle.inode_table.proofs.Common.{ap, option_copied, sym, ◌∙◌}
use Rattle.inode_table.proofs.Chains.{are_same}
use Rattle.inode_table.proofs.RowLaws.{get_home, home_in}
use Rattle.inode_table.proofs.dirs.Dirs.get.Goals as goal

pub returns-then-eq : goal.returns-then-eq
returns-then-eq c = rw (are_same _ _ c.if-eq.ensures) (sym c.is_table.ensures.rooted.rootless)

pub returns-in_err-get_near : goal.returns-in_err-get_near
returns-in_err-get_near c = rw (← c.self.view_is) (ap option_copied c.from_residual.ensures ∙ sym (get_home _ _ ∙ ap home_in (sym c.get_near.ensures ∙ ap option_copied c.in_err-get_near.was)))

pub returns : goal.returns
returns c = rw (← c.self.view_is) (sym (get_home _ _ ∙ ap home_in (sym c.get_near.ensures ∙ ap option_copied c.in_ok-get_near.was)))
