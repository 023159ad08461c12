use Rattle.dentry_cache.proofs.Common.{AreFillable, CacheMap, List, Part, ap, arith, into_iter_items, length, subst, suc, sym, with_parts, ℕ, ◌<◌, ◌∙◌, ◌≡◌}
use Rattle.dentry_cache.proofs.PartsLaws.{fillable_with}
use Rattle.dentry_cache.proofs.StepLaws.{ranks_with_frag}
use Rattle.dentry_cache.proofs.caches.Caches.fill_all.Goals as goal

pub loop-part-preserved : goal.loop-part-preserved
loop-part-preserved c =
    let now : AreFillable c.args.at.now.rank.0 c.args.at.now.dir (into_iter_items c.loop-part.part-iterator) c.loop-part.self = c.loop-part.invariant.fillable in
    let all = subst (λ (items : List Part). AreFillable c.args.at.now.rank.0 c.args.at.now.dir items c.loop-part.self) c.in-Some.ensures.steps.0 now in
    let longer : length (into_iter_items c.loop-part.part-iterator) ≡ suc (length (into_iter_items c.next.new.self)) = ap (length {A = Part}) c.in-Some.ensures.steps.0 in
    record {
      count = omega (arith, c.loop-part.invariant.count, longer, c.in-Some.ensures.steps.1);
      there = subst (λ (n : ℕ). c.args.at.now.rank.0 < n) (sym (ap (λ (k : CacheMap). length k.used) c.fill.ensures ∙ ranks_with_frag c.loop-part.self c.args.at.now.rank.0 (c.args.at.now.dir, c.in-Some.part.frag) c.in-Some.part.fragment)) c.loop-part.invariant.there;
      filled = ap (with_parts c.args.at.now.dir c.args.at.now.rank.0 (into_iter_items c.next.new.self)) c.fill.ensures
          ∙ sym (ap (λ (items : List Part). with_parts c.args.at.now.dir c.args.at.now.rank.0 items c.loop-part.self) c.in-Some.ensures.steps.0) ∙ c.loop-part.invariant.filled;
      fillable = subst (AreFillable c.args.at.now.rank.0 c.args.at.now.dir (into_iter_items c.next.new.self)) (sym c.fill.ensures)
          (fillable_with c.loop-part.self c.args.at.now.rank.0 c.args.at.now.dir c.in-Some.part (into_iter_items c.next.new.self) c.loop-part.invariant.there all);
    }
