use Rattle.std.proofs.Common.{inl, inr}
use Rattle.object_tables.proofs.SpelledLaws.{put_in}
use Rattle.object_tables.proofs.writing.note_new.Goals as goal

pub returns-then-is_new : goal.returns-then-is_new
returns-then-is_new c n there = elim (put_in c.put.result c.args.fresh.now c.put.new.self c.args.name.now n c.put.ensures.ok c.put.ensures.err there) [
  | inl was ↦ inl was
  | inr is ↦ inr (is, c.if-is_new.true)
]
