use Rattle.dentry_cache.proofs.Common.{None, Option, PageEnd, Last, More, Off, Some, option_copied, pairs_left, rules, subst, sym, ◌≡◌}
use Rattle.std.specs.FinMap as map
use Rattle.std.proofs.lemmas.Result.{err_from_is_err_and}
use Rattle.objstore.specs.Omap.{Omap}
use Rattle.dentry_cache.specs.Calls.{AreCalls, PagesLeft, pages_read}
use Rattle.dentry_cache.proofs.CallLaws.{ends_early, goes_on}
use Rattle.dentry_cache.proofs.loading.read_names.Goals as goal

pub loop-after-preserved : goal.loop-after-preserved
loop-after-preserved g c =
    let inv = c.loop-after.invariant in
    let left : PagesLeft c.args.frag (map.get (g.S.Store.objects c.args.store.now) c.args.text.now) c.loop-after.after (More c.in-More.key) =
    subst (λ a. PagesLeft c.args.frag (map.get (g.S.Store.objects c.args.store.now) c.args.text.now) a (More c.in-More.key)) c.as_ref.ensures.value
    (subst (λ o. PagesLeft c.args.frag (map.get o c.args.text.now) (option_copied c.as_ref.result) (More c.in-More.key)) inv.same (rw c.in-More.is at c.in_ok-read_page.ensures.left)) in
    record {
      same = search rules;
      counted = search rules;
      good = search rules;
      called = λ told end rest. inv.called told end (subst (λ n. AreCalls g.S.Store.IsCall n c.loop-after.store told end) (sym left)
          (goes_on g.S.Store.IsCall (pages_read c.args.frag (pairs_left (map.get (g.S.Store.objects c.args.store.now) c.args.text.now) (Some c.in-More.key))) c.loop-after.store c.read_page.new.store end told c.in_ok-read_page.ensures.called rest));
      whole = search rules;
    }

pub returns-in_err-read_page-clause-called : goal.returns-in_err-read_page-clause-called
returns-in_err-read_page-clause-called g c =
    let inv = c.loop-after.invariant in
    let p = err_from_is_err_and c.from_residual.result c.from_residual.ensures.1 in
    rw (p.1, p.2) (inv.called (Some c.in_err-read_page.field-0.0) c.read_page.new.store (ends_early g.S.Store.IsCall _ c.loop-after.store c.read_page.new.store c.in_err-read_page.field-0.0 _ _ c.in_err-read_page.ensures.refused c.in_err-read_page.ensures.called))

pub returns-in-Off-clause-called : goal.returns-in-Off-clause-called
returns-in-Off-clause-called g c =
    let inv = c.loop-after.invariant in
    let left : PagesLeft c.args.frag (map.get (g.S.Store.objects c.args.store.now) c.args.text.now) c.loop-after.after Off =
    subst (λ a. PagesLeft c.args.frag (map.get (g.S.Store.objects c.args.store.now) c.args.text.now) a Off) c.as_ref.ensures.value
    (subst (λ o. PagesLeft c.args.frag (map.get o c.args.text.now) (option_copied c.as_ref.result) Off) inv.same (rw c.in-Off.is at c.in_ok-read_page.ensures.left)) in
    inv.called None c.read_page.new.store (subst (λ n. AreCalls g.S.Store.IsCall n c.loop-after.store None c.read_page.new.store) (sym left) c.in_ok-read_page.ensures.called)

pub returns-in-Last-clause-called : goal.returns-in-Last-clause-called
returns-in-Last-clause-called g c =
    let inv = c.loop-after.invariant in
    let left : PagesLeft c.args.frag (map.get (g.S.Store.objects c.args.store.now) c.args.text.now) c.loop-after.after Last =
    subst (λ a. PagesLeft c.args.frag (map.get (g.S.Store.objects c.args.store.now) c.args.text.now) a Last) c.as_ref.ensures.value
    (subst (λ o. PagesLeft c.args.frag (map.get o c.args.text.now) (option_copied c.as_ref.result) Last) inv.same (rw c.in-Last.is at c.in_ok-read_page.ensures.left)) in
    inv.called None c.read_page.new.store (subst (λ n. AreCalls g.S.Store.IsCall n c.loop-after.store None c.read_page.new.store) (sym left) c.in_ok-read_page.ensures.called)
