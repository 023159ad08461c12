use Rattle.cold_store.proofs.Common.{IsNextNumber, ap, arith, contents, dentry_cmp, end_number, first_number, passed, passed_all, subst, sym, ◌∙◌, ◌≡◌, ◌≤◌}
use Rattle.cold_store.proofs.NumberLaws.{is_next, passes, stays_within}
use Rattle.cold_store.proofs.walked.Walked.numbers.Goals as goal

pub loop-next-init : goal.loop-next-init
loop-next-init c =
    let first = c.first_of-next.ensures in
    record { from = omega (arith, first); most = omega (arith, first); end_is = omega (arith, first); whole = λ i. passed_all (first i) (end_number c.args.rank.0) (c.iter-rows.ensures i) }

pub loop-next-preserved : goal.loop-next-preserved
loop-next-preserved c =
    let inv = c.loop-next.invariant in
    let next = c.loop-next.next in
    let end = end_number c.args.rank.0 in
    let n = c.in-Some.field-0.now.1.ino.0 in
    let is : c.passed-next.result ≡ passed next end n = c.passed-next.ensures ∙ ap (λ e. passed next e n) inv.end_is in
    let from = inv.from in
    record {
      from = subst (λ m. first_number c.args.rank.0 ≤ m) (sym is) (omega (arith, from, passes next end n));
      most = subst (λ m. m ≤ end) (sym is) (stays_within next end n inv.most);
      end_is = inv.end_is;
      whole = ap (λ m. passed_all m end c.next.new.self) is ∙ sym (ap (passed_all next end) c.in-Some.ensures.steps) ∙ inv.whole;
    }

pub returns-clause-next : goal.returns-clause-next
returns-clause-next c =
    let inv = c.loop-next.invariant in
    subst (IsNextNumber (contents dentry_cmp c.args.self.now.entries)) (sym c.from.ensures)
    (is_next (contents dentry_cmp c.args.self.now.entries) (record { rank = c.args.rank.0; next = c.loop-next.next })
    (sym (ap (passed_all c.loop-next.next (end_number c.args.rank.0)) c.in_default.ensures.steps.0) ∙ inv.whole))
