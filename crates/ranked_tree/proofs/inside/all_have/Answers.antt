use Rattle.ranked_tree.proofs.Common.{HasAuthority, Rank, arith, false, leaves_of, one_authority, rules, subst, sym, tree_of_row, true, ◌∙◌, ◌≡◌}
use Rattle.ranked_tree.proofs.InsideLaws.{is_within, walk_goes, walk_on}
use Rattle.ranked_tree.proofs.inside.all_have.Goals as goal

pub returns-then-ne : goal.returns-then-ne
returns-then-ne c =
    let apart : c.authority.result ≡ c.args.rank → ⊥ = search rules in
    let known = sym c.contains.ensures.known ∙ c.if-not-contains.false in (
      λ told. let clash : false ≡ true = told in cc,
      λ all. absurd (apart (one_authority c.args.roots.now.roots c.args.dirs.now.homes c.args.dirs.now.trees (c.args.dir, c.in-Some.leaf) c.authority.result c.args.rank c.authority.ensures
          (all (c.args.dir, c.in-Some.leaf) (record { known = known; stands = c.in-Some.ensures.0 }) (is_within c.args.dir c.args.frag c.in-Some.leaf c.in-Some.ensures.1)))),
    )

pub loop-leaf-preserved : goal.loop-leaf-preserved
loop-leaf-preserved c =
    let tree = tree_of_row c.args.dirs.now.homes c.args.dirs.now.trees c.contains.ensures.valid c.args.dir.0 in
    let on = walk_on (leaves_of c.args.dirs.now.trees c.args.dir.0) c.args.frag c.loop-leaf.hash c.in-Some.leaf c.end_of-hash.result tree c.in-Some.ensures c.end_of-hash.ensures.end in
    let same : c.authority.result ≡ c.args.rank = search rules in
    record {
      from = omega (arith, on.0, c.loop-leaf.invariant.from);
      done =
          walk_goes (leaves_of c.args.dirs.now.trees c.args.dir.0) tree c.args.frag c.value-hash.ensures.valid (λ g. HasAuthority c.args.roots.now.roots c.args.dirs.now.homes c.args.dirs.now.trees (c.args.dir, g) c.args.rank) c.loop-leaf.hash c.in-Some.leaf c.end_of-hash.result c.loop-leaf.invariant.done c.in-Some.ensures
          (subst (λ (r : Rank). HasAuthority c.args.roots.now.roots c.args.dirs.now.homes c.args.dirs.now.trees (c.args.dir, c.in-Some.leaf) r) same c.authority.ensures) c.end_of-hash.ensures.end;
    }
