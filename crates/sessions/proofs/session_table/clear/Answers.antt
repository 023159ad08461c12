use Rattle.sessions.proofs.Common.{ap, changed_at, cond, contents, false, get_or, nat_cmp, refl, ◌==◌, ◌∙◌}
use Rattle.std.specs.FinMap as map
use Rattle.sessions.proofs.ChangedLaws.{cleared_more}
use Rattle.sessions.proofs.session_table.clear.Goals as goal

pub loop-client-preserved : goal.loop-client-preserved
loop-client-preserved c =
    let h = c.loop-client.invariant in
    record {
      rows = λ i. c.clear_one.ensures.rows i ∙ h.rows i;
      long = c.clear_one.ensures.long ∙ h.long;
      capacity = c.clear_one.ensures.capacity ∙ h.capacity;
      cleared = λ q.
          let client = get_or c.args.changed.now c.loop-client.client-index 0 in
          c.clear_one.ensures.cleared q ∙ ap (cond (q == client) false) (h.cleared q)
          ∙ cleared_more c.args.changed.now c.loop-client.client-index client q (changed_at c.args.sessions.now.items (map.get (contents nat_cmp c.args.indices.now) q)) c.loop-client-test.true refl;
    }
