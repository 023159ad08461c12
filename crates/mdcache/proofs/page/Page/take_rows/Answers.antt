use Rattle.mdcache.proofs.Common.{rows_left, ◌∙◌}
use Rattle.mdcache.proofs.PageLaws.{leaf_left, next_taken}
use Rattle.mdcache.proofs.page.Page.take_rows.Goals as goal

pub loop-name-preserved : goal.loop-name-preserved
loop-name-preserved c = record {
  most = c.in-Ok-true.ensures.most ∙ c.loop-name.invariant.most;
  page = λ whole is sorted.
      let w = c.loop-name.invariant.page whole is sorted in
      next_taken (c.in-Some.name.now, c.in-Some.inode.now) (rows_left c.loop-name.rows) (rows_left c.next_row.new.self) w.0 (rows_left c.args.rows) whole c.loop-name.self c.take_row.new.self c.in-Some.ensures c.in-Ok-true.ensures.takes w.1 w.2 w.3;
}

pub returns-in-Ok-false-clause-page : goal.returns-in-Ok-false-clause-page
returns-in-Ok-false-clause-page c = λ whole is sorted.
    let w = c.loop-name.invariant.page whole is sorted in
    leaf_left (c.in-Some.name.now, c.in-Some.inode.now) (rows_left c.loop-name.rows) (rows_left c.next_row.new.self) w.0 (rows_left c.args.rows) whole c.loop-name.self c.take_row.new.self c.in-Some.ensures c.in-Ok-false.ensures.takes (c.in-Ok-false.ensures.beyond c.in-Ok-false.field-0-test) w.1 w.2 w.3
