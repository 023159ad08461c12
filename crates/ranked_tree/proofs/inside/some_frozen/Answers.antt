use Rattle.ranked_tree.proofs.Common.{IsFrozen, arith, false, leaves_of, rules, sym, tree_of_row, true, ◌∙◌, ◌≡◌}
use Rattle.ranked_tree.proofs.InsideLaws.{walk_goes, walk_on}
use Rattle.ranked_tree.proofs.inside.some_frozen.Goals as goal

pub loop-leaf-preserved : goal.loop-leaf-preserved
loop-leaf-preserved c =
    let tree = tree_of_row c.args.dirs.now.homes c.args.dirs.now.trees c.contains.ensures.valid c.args.dir.0 in
    let on = walk_on (leaves_of c.args.dirs.now.trees c.args.dir.0) c.args.frag c.loop-leaf.hash c.in-Some.leaf c.end_of-hash.result tree c.in-Some.ensures c.end_of-hash.ensures.end in
    let free : c.is_frozen.result ≡ false = search rules in
    record {
      from = omega (arith, on.0, c.loop-leaf.invariant.from);
      done =
          walk_goes (leaves_of c.args.dirs.now.trees c.args.dir.0) tree c.args.frag c.value-hash.ensures.valid (λ g. IsFrozen c.args.regions.now.exports c.args.regions.now.roots.roots c.args.dirs.now.homes c.args.dirs.now.trees (c.args.dir, g) → ⊥) c.loop-leaf.hash c.in-Some.leaf c.end_of-hash.result c.loop-leaf.invariant.done c.in-Some.ensures
          (λ frozen. let clash : true ≡ false = sym (c.is_frozen.ensures.1 frozen) ∙ free in cc) c.end_of-hash.ensures.end;
    }
