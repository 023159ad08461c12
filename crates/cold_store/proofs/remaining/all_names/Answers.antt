use Rattle.cold_store.proofs.Common.{None, Objects, Option, Refusal, Some, contents, key_cmp, option_copied, subst, sym, ◌≡◌}
use Rattle.std.proofs.Common.{rules}
use Rattle.std.proofs.lemmas.Result.{err_from_is_err_and}
use Rattle.dentry_cache.specs.Calls.{AreCalls}
use Rattle.dentry_cache.proofs.CallLaws.{ends_early, goes_on}
use Rattle.cold_store.specs.Calls.{NamesLeft, name_pages}
use Rattle.cold_store.proofs.NameLaws.{all_read}
use Rattle.cold_store.proofs.remaining.all_names.Goals as goal

pub returns-in-None-clause-named : goal.returns-in-None-clause-named
returns-in-None-clause-named g c =
    let inv = c.loop-after.invariant in
    all_read (g.S.Store.objects c.args.store.now) (g.S.Store.objects c.loop-after.store) c.loop-after.after (option_copied c.as_ref.result) (contents key_cmp c.loop-after.names) (contents key_cmp c.next_names.new.names) inv.same c.as_ref.ensures.value
    inv.whole (rw c.in-None.is at c.in_ok-last.ensures.read)

pub loop-after-preserved : goal.loop-after-preserved
loop-after-preserved g c =
    let inv = c.loop-after.invariant in
    let objects = g.S.Store.objects c.args.store.now in
    let left : NamesLeft objects c.loop-after.after (Some c.in-Some.last) =
    subst (λ o. NamesLeft objects o (Some c.in-Some.last)) c.as_ref.ensures.value (subst (λ o. NamesLeft o (option_copied c.as_ref.result) (Some c.in-Some.last)) inv.same (rw c.in-Some.is at c.in_ok-last.ensures.left)) in
    record {
      same = search rules;
      counted = search rules;
      called = λ told end rest. inv.called told end (subst (λ n. AreCalls g.S.Store.IsCall n c.loop-after.store told end) (sym left) (goes_on g.S.Store.IsCall (name_pages objects (Some c.in-Some.last)) c.loop-after.store c.next_names.new.store end told c.in_ok-last.ensures.called rest));
      whole = search rules;
    }

pub returns-in_err-last-clause-called : goal.returns-in_err-last-clause-called
returns-in_err-last-clause-called g c =
    let inv = c.loop-after.invariant in
    let p = err_from_is_err_and c.from_residual.result c.from_residual.ensures.1 in
    rw (p.1, p.2) (inv.called (Some c.in_err-last.field-0.0) c.next_names.new.store (ends_early g.S.Store.IsCall _ c.loop-after.store c.next_names.new.store c.in_err-last.field-0.0 _ _ c.in_err-last.ensures.refused c.in_err-last.ensures.called))

pub returns-in-None-clause-called : goal.returns-in-None-clause-called
returns-in-None-clause-called g c =
    let inv = c.loop-after.invariant in
    let objects = g.S.Store.objects c.args.store.now in
    let left : NamesLeft objects c.loop-after.after None =
    subst (λ o. NamesLeft objects o None) c.as_ref.ensures.value (subst (λ o. NamesLeft o (option_copied c.as_ref.result) None) inv.same (rw c.in-None.is at c.in_ok-last.ensures.left)) in
    inv.called None c.next_names.new.store (subst (λ n. AreCalls g.S.Store.IsCall n c.loop-after.store None c.next_names.new.store) (sym left) c.in_ok-last.ensures.called)
