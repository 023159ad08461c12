use Rattle.inode_table.proofs.Common.{false, is_some, rules, true, ◌≡◌}
use Rattle.inode_table.proofs.PinnedRows.{first_here, rest_pins, rest_sorted}
use Rattle.inode_table.proofs.next_pinned.first_pinned.Goals as goal

pub returns-then-is_some : goal.returns-then-is_some
returns-then-is_some c =
    let told : is_some c.in-Some.row.now.1.settings.pin ≡ true = search rules in
    first_here c.args.rows c.loop-row.rows c.next.new.self c.in-Some.row.now c.in-Some.ensures.steps c.loop-row.invariant.sorted c.loop-row.invariant.each told

pub loop-row-preserved : goal.loop-row-preserved
loop-row-preserved c =
    let told : is_some c.in-Some.row.now.1.settings.pin ≡ false = search rules in
    record {
      sorted = rest_sorted c.args.rows c.loop-row.rows c.next.new.self c.in-Some.row.now c.in-Some.ensures.steps c.loop-row.invariant.sorted c.loop-row.invariant.each;
      each = rest_pins c.args.rows c.loop-row.rows c.next.new.self c.in-Some.row.now c.in-Some.ensures.steps c.loop-row.invariant.sorted c.loop-row.invariant.each told;
    }
