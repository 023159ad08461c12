-- A flush that is kept, and one that the file refuses.
use Rattle.admin_cli.proofs.Common.{Ok, inl, inr, refl}
use Rattle.admin_cli.proofs.commands.Admin.save.Goals as goal

pub returns-in-Ok : goal.returns-in-Ok
returns-in-Ok g c = record {
  count = c.flush_book.ensures.count;
  result = Ok tt;
  jobs = c.in_default.ensures.jobs;
  sent = c.flush_book.ensures.sent;
  book = c.flush_book.new.self.book;
  flushed = c.in_default.ensures.flushed;
  shown = inl (refl, c.in-Ok.ensures.stored);
}

pub returns-in-Err-keep : goal.returns-in-Err-keep
returns-in-Err-keep g c = record {
  count = c.flush_book.ensures.count;
  result = Ok tt;
  jobs = c.in_default.ensures.jobs;
  sent = c.flush_book.ensures.sent;
  book = c.flush_book.new.self.book;
  flushed = c.in_default.ensures.flushed;
  shown = inr (c.in-Err-keep.why, refl, c.in-Err-keep.ensures.same);
}
