-- The directory is made, and handed to another rank where that isn't the first.
use Rattle.admin_cli.proofs.GoesOnLaws.{goes_on_past}
use Rattle.admin_cli.proofs.workload.setup.make_home.Goals.{then-ne+in_ok-hand, else-ne}
use Rattle.admin_cli.proofs.workload.setup.make_home.Goals as goal

pub returns : goal.returns
returns g c =
    elim c.if-ne.branch [
      | then-ne+in_ok-hand w ↦ rw w.book-is (goes_on_past c.args.book.now c.make_dir.new.book w.hand.new.book c.make_dir.ensures w.hand.ensures)
      | else-ne w ↦ rw w.book-is c.make_dir.ensures
    ]
