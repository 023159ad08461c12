-- Each turn removes one of the fragments within f.
use Rattle.fragtree.proofs.Common.{ContainsFragment, FragSplits, ap, contents, frag_cmp, subst, sym, ◌∙◌}
use Rattle.std.specs.FinMap as map
use Rattle.fragtree.proofs.Entries.{after_removal, fewer, get_left}
use Rattle.fragtree.proofs.closing.forget.Goals as goal

pub loop-within-smaller : goal.loop-within-smaller
loop-within-smaller c = rw c.remove.ensures.removed (fewer (contents frag_cmp c.loop-within.splits) c.in-Some.within c.in-Some.ensures.some.0)

pub loop-within-preserved : goal.loop-within-preserved
loop-within-preserved c = record {
  kept = λ g out.
      ap (λ (m : FragSplits). map.get m g) c.remove.ensures.removed
      ∙ get_left (contents frag_cmp c.loop-within.splits) c.in-Some.within g (λ same. out (subst (ContainsFragment c.args.f) (sym same) c.in-Some.ensures.some.1))
      ∙ c.loop-within.invariant.kept g out;
  fewer = λ g nb is. c.loop-within.invariant.fewer g nb (after_removal (contents frag_cmp c.loop-within.splits) c.in-Some.within g nb (ap (λ (m : FragSplits). map.get m g) (sym c.remove.ensures.removed) ∙ is));
}
