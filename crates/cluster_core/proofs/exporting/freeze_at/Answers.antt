use Rattle.cluster_core.proofs.Common.{HasAuthority, Rank, Some, Standing, StandingExport, ap, false, option_map, refl, rules, shown_tree, subst, sym, true, ◌∙◌, ◌≡◌}
use Rattle.std.specs.FinMap as map
use Rattle.mdcache.specs.State.{State as TreeState}
use Rattle.cluster_core.proofs.exporting.freeze_at.Goals as goal

pub returns-clause-frozen : goal.returns-clause-frozen
returns-clause-frozen g c = λ numbers inboxes sessions past.
    let w = c.in-Some.ensures in
    let stood : map.get c.args.tree.now.exports (c.args.ino, c.args.frag) ≡ Some w.0 = ap (λ (s : Standing). map.get s (c.args.ino, c.args.frag)) (sym c.exports.ensures) ∙ w.1 in (
      refl,
      (
        record {
          started = ap (option_map (λ (e : StandingExport). e.state)) stood ∙ ap Some w.2;
          live = c.has_leaf.ensures.0 (search rules);
          mine = (w.0, stood, subst (λ (r : Rank). HasAuthority c.args.tree.now.subtrees.roots c.args.tree.now.tree.homes c.args.tree.now.tree.covers (c.args.ino, c.args.frag) r) w.3 (c.is_authority.ensures.0 (search rules)));
          thawed = λ frozen. let is : c.is_frozen.result ≡ true = c.is_frozen.ensures.1 frozen in let clash : true ≡ false = sym is ∙ c.if-is_frozen.false in cc;
          free = λ pinned. let is : c.is_region_pinned.result ≡ true = c.is_region_pinned.ensures.1 pinned in let clash : true ≡ false = sym is ∙ c.if-is_region_pinned.false in cc;
        },
        record { step = c.in_ok-freeze.ensures.frozen.step; roots = c.in_ok-freeze.ensures.frozen.roots; ended = c.in_ok-freeze.ensures.ended },
      ),
      record { same = refl; tree = ap (λ (t : TreeState). shown_tree t) c.in_ok-freeze.ensures.ended.left; left = refl },
    )
