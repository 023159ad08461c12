use Rattle.cluster_core.proofs.Common.{ap, false, false_from_ne_true, not, not-true, rules, sym, true, ◌∙◌, ◌≡◌}
use Rattle.cluster_core.proofs.FreezeLaws.{none_granted, none_pinned}
use Rattle.cluster_core.proofs.going_on.may_freeze.Goals as goal

pub returns-then-is_frozen : goal.returns-then-is_frozen
returns-then-is_frozen g c = λ ranks rank mine. (λ told. let clash : false ≡ true = told in cc, λ may. absurd (may.thawed (c.is_frozen.ensures.0 (search rules))))

pub returns : goal.returns
returns g c = λ ranks rank mine.
    let t = c.args.tree.now in
    let off : c.is_frozen.result ≡ false = search rules in (
      λ told. record {
        own = mine;
        thawed = λ frozen. let clash : true ≡ false = sym (c.is_frozen.ensures.1 frozen) ∙ off in cc;
        free = none_granted t.subtrees.roots t.tree.homes t.tree.covers c.args.grants.now (c.args.ino, c.args.frag) rank (λ pinned. let clash : true ≡ false = sym (c.is_region_pinned.ensures.1 pinned) ∙ not-true c.is_region_pinned.result told in cc);
      },
      λ may. ap not (false_from_ne_true c.is_region_pinned.result (λ on. none_pinned t.subtrees.roots t.tree.homes t.tree.covers c.args.grants.now (c.args.ino, c.args.frag) rank may.free (c.is_region_pinned.ensures.0 on))),
    )
