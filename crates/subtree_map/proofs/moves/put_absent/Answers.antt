use Rattle.subtree_map.proofs.Common.{false, rules, ◌≡◌}
use Rattle.subtree_map.proofs.Filled.{absent_of, filled_one}
use Rattle.subtree_map.proofs.moves.put_absent.Goals as goal

pub returns-then-not-contains-clause-filled : goal.returns-then-not-contains-clause-filled
returns-then-not-contains-clause-filled c =
    let told : c.contains.result ≡ false = search rules in
    filled_one c.args.roots.now.roots c.insert.new.self.roots (c.args.dir, c.args.leaf) c.args.rank (absent_of _ c.contains.result c.contains.ensures told) c.insert.ensures.roots
