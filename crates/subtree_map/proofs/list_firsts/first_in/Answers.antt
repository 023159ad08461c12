use Rattle.subtree_map.proofs.Common.{claimed, false, is_some, rules, true, ◌≡◌}
use Rattle.subtree_map.proofs.ListFirsts.{first_here, rest_claims, rest_sorted}
use Rattle.subtree_map.proofs.list_firsts.first_in.Goals as goal

pub returns-then-is_some : goal.returns-then-is_some
returns-then-is_some c =
    let told : is_some (claimed c.in-Some.row.now.1) ≡ true = search rules in
    first_here c.args.rows c.loop-row.rows c.next.new.self c.in-Some.row.now c.in-Some.ensures.steps c.loop-row.invariant.sorted c.loop-row.invariant.each told

pub loop-row-preserved : goal.loop-row-preserved
loop-row-preserved c =
    let told : is_some (claimed c.in-Some.row.now.1) ≡ false = search rules in
    record {
      sorted = rest_sorted c.loop-row.rows c.next.new.self c.in-Some.row.now c.in-Some.ensures.steps c.loop-row.invariant.sorted;
      each = rest_claims c.args.rows c.loop-row.rows c.next.new.self c.in-Some.row.now c.in-Some.ensures.steps c.loop-row.invariant.sorted c.loop-row.invariant.each told;
    }
