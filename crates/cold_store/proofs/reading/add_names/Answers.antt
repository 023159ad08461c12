use Rattle.cold_store.proofs.Common.{sym, ◌∙◌}
use Rattle.cold_store.proofs.RowLaws.{ready_with}
use Rattle.cold_store.proofs.Steps.{new_step, row_step}
use Rattle.cold_store.proofs.reading.add_names.Goals as goal

pub loop-name-preserved : goal.loop-name-preserved
loop-name-preserved c =
    let inv = c.loop-name.invariant in
    let s = c.loop-name.found.shape in
    let t = c.add.new.self.shape in
    let es = c.loop-name.name-iterator in
    let next = c.next.new.self in
    let added = c.in_ok-add.ensures.added c.if-not-branch.false in
    record {
      ready = ready_with s t c.args.dir c.in-Some.name c.in-Some.inode added inv.ready;
      covers = c.in_ok-add.ensures.covers ∙ inv.covers;
      fresh =
          new_step (c.args.dir, c.args.frag) es next c.in-Some.name c.in-Some.inode s t c.in-Some.ensures.steps added (sym c.in_ok-add.ensures.new ∙ c.if-not-branch.false)
          ∙ inv.fresh;
      whole = row_step (c.args.dir, c.args.frag) es next c.in-Some.name c.in-Some.inode s t c.in-Some.ensures.steps added ∙ inv.whole;
    }
