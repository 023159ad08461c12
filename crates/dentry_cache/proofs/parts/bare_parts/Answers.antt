use Rattle.dentry_cache.proofs.Common.{Each, IsBare, List, Part, ap, arith, length, rules, subst, sym, ◌≡◌}
use Rattle.dentry_cache.proofs.PartLaws.{bare_here, each_pushed}
use Rattle.dentry_cache.proofs.parts.bare_parts.Goals as goal

pub loop-i-init : goal.loop-i-init
loop-i-init c =
    let none : length c.new-parts.result.items ≡ 0 = ap (length {A = Part}) c.new-parts.ensures.items in
    record { count = none; each = λ i d within. absurd (omega (arith, within, none)) }

pub loop-i-preserved : goal.loop-i-preserved
loop-i-preserved c =
    record {
      count = search rules;
      each = subst (λ (items : List Part). Each (IsBare c.args.frag c.args.nb c.args.generation) items) (sym c.in_ok-push.ensures.items)
          (each_pushed (IsBare c.args.frag c.args.nb c.args.generation) c.loop-i.parts.items _ c.loop-i.invariant.each (bare_here c.args.frag c.args.nb c.args.generation c.loop-i.i _ _ _ _ c.loop-i.invariant.count c.in-Some.ensures.1 c.from.ensures c.fresh.ensures));
    }
