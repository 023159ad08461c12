-- The two steps of an operation alone.
use Rattle.admin_cli.proofs.Common.{refl}
use Rattle.admin_cli.proofs.commands.Admin.operate.Goals as goal

pub returns-in-Err-clause-operated : goal.returns-in-Err-clause-operated
returns-in-Err-clause-operated g c = rw c.step_book.ensures.count (record {
  middle = c.step_book.new.self.book;
  arrived = c.step_book.result;
  stepped = c.step_book.ensures.stepped;
  rest = rw c.in-Err.is (refl, refl);
})

pub returns-in-Ok-clause-operated : goal.returns-in-Ok-clause-operated
returns-in-Ok-clause-operated g c = rw (c.step_book-in-Ok.ensures.count, c.step_book.ensures.count) (record {
  middle = c.step_book.new.self.book;
  arrived = c.step_book.result;
  stepped = c.step_book.ensures.stepped;
  rest = rw c.in-Ok.is (record { result = c.step_book-in-Ok.result; stepped = c.step_book-in-Ok.ensures.stepped; shown = refl });
})
