use Rattle.subtree_map.proofs.Common.{ap, false, is_inside, sym, true, ◌∙◌, ◌≡◌}
use Rattle.subtree_map.proofs.TakenOut.{found_next, other_stays, shorter, stays_there}
use Rattle.subtree_map.proofs.merges.take_inside.Goals as goal

pub loop-root-smaller : goal.loop-root-smaller
loop-root-smaller c = shorter c.loop-root.roots.roots _ c.in-Some.root c.in-Some.ensures.1 c.take-found.ensures.removed

pub loop-root-preserved : goal.loop-root-preserved
loop-root-preserved c = record {
  others = λ leaf outside.
      other_stays c.loop-root.roots.roots _ c.in-Some.root leaf c.take-found.ensures.removed
      (λ same. let clash : true ≡ false = sym c.in-Some.ensures.0 ∙ ap (is_inside c.args.dir.0 c.args.frag) (sym same) ∙ outside in cc)
      ∙ c.loop-root.invariant.others leaf outside;
  fewer = λ leaf rank has. c.loop-root.invariant.fewer leaf rank (stays_there c.loop-root.roots.roots _ c.in-Some.root leaf rank c.take-found.ensures.removed has);
  promises = c.take-found.ensures.promises ∙ c.loop-root.invariant.promises;
  found =
      found_next c.args.roots.now c.loop-root.roots c.take-found.new.self c.args.dir.0 c.args.frag c.in-Some.root _ _ c.loop-root.invariant.found c.in-Some.ensures.0 c.in-Some.ensures.1 c.loop-root.invariant.fewer
      c.take-found.ensures.value c.take-found.ensures.room;
}
