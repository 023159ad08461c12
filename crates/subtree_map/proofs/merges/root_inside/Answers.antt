use Rattle.subtree_map.proofs.Common.{false, rules, sym, ◌∙◌, ◌≡◌}
use Rattle.subtree_map.proofs.Firsts.{none_behind, none_inside}
use Rattle.subtree_map.proofs.merges.root_inside.Goals as goal

pub returns-in_err-root : goal.returns-in_err-root
returns-in_err-root c = rw c.from_residual.ensures (λ leaf inside. none_behind c.args.roots.now.roots c.args.dir.0 c.args.frag c.bits.ensures.valid leaf inside c.in_err-root.ensures)

pub returns-then-not-is_inside : goal.returns-then-not-is_inside
returns-then-not-is_inside c leaf inside =
    let out : c.is_inside.result ≡ false = search rules in
    none_inside c.args.roots.now.roots c.args.dir.0 c.args.frag c.bits.ensures.valid leaf inside c.in_ok-root.root c.is_inside.ensures.valid c.in_ok-root.ensures (sym c.is_inside.ensures.inside ∙ out)
