use Rattle.cold_store.proofs.Common.{IsTabled, IsWalked, Tree, ap, contents, dentry_cmp, key_cmp, subst, sym, ◌∙◌}
use Rattle.cold_store.proofs.Common.{None, Objects, Refusal, Some}
use Rattle.std.proofs.lemmas.Result.{err_from_is_err_and}
use Rattle.dentry_cache.specs.Calls.{AreCalls}
use Rattle.cold_store.specs.Calls.{AreWalkCalls, name_pages}
use Rattle.cold_store.proofs.TabledLaws.{walked_is_tabled}
use Rattle.cold_store.proofs.WalkedLaws.{is_cold, walked_as}
use Rattle.cold_store.proofs.walking.walk.Goals as goal

pub counted-requires-clause-tabled : goal.counted-requires-clause-tabled
counted-requires-clause-tabled g c =
    (walked_is_tabled (g.S.Store.objects c.args.store.now) (contents dentry_cmp c.of.result.entries) c.of.result.dirs.homes c.of.result.dirs.trees (contents key_cmp c.of.result.left)
    (walked_as (g.S.Store.objects c.args.store.now) (g.S.Store.objects c.find.new.store) c.in_ok-found.found (contents key_cmp c.in-Ok.left) (contents key_cmp c.of.result.left) (contents dentry_cmp c.of.result.entries) c.of.result.dirs.homes
    c.of.result.dirs.trees c.in_ok-found.ensures.found c.in_ok-found.ensures.same c.in-Ok.ensures.left c.of.ensures.entries c.of.ensures.homes c.of.ensures.trees (ap (contents key_cmp) c.of.ensures.left))).0

pub returns-in-Ok-clause-walked : goal.returns-in-Ok-clause-walked
returns-in-Ok-clause-walked g c =
    walked_as (g.S.Store.objects c.args.store.now) (g.S.Store.objects c.find.new.store) c.in_ok-found.found (contents key_cmp c.in-Ok.left) (contents key_cmp c.counted.result.left) (contents dentry_cmp c.counted.result.entries) c.counted.result.dirs.homes
    c.counted.result.dirs.trees c.in_ok-found.ensures.found c.in_ok-found.ensures.same c.in-Ok.ensures.left (ap (contents dentry_cmp) c.counted.ensures.entries ∙ c.of.ensures.entries) (c.counted.ensures.homes ∙ c.of.ensures.homes) (c.counted.ensures.trees ∙ c.of.ensures.trees)
    (ap (contents key_cmp) (c.counted.ensures.left ∙ c.of.ensures.left))

pub returns-in-Ok-clause-cold : goal.returns-in-Ok-clause-cold
returns-in-Ok-clause-cold g c =
    is_cold (g.S.Store.objects c.args.store.now) (contents dentry_cmp c.counted.result.entries) c.counted.result.dirs.homes c.counted.result.dirs.trees (contents key_cmp c.counted.result.left) (returns-in-Ok-clause-walked g c)

pub returns-in_err-found-clause-called : goal.returns-in_err-found-clause-called
returns-in_err-found-clause-called g c =
    let p = err_from_is_err_and c.from_residual.result c.from_residual.ensures.1 in
    rw (p.1, p.2) c.in_err-found.ensures.ended

pub returns-in-Ok-clause-called : goal.returns-in-Ok-clause-called
returns-in-Ok-clause-called g c =
    AreWalkCalls.all_read c.in_ok-found.found.shape.queue c.find.new.store c.in_ok-found.ensures.called
    (subst (λ (o : Objects). AreCalls g.S.Store.IsCall (name_pages o None) c.find.new.store None c.list_left.new.store) c.in_ok-found.ensures.same c.in-Ok.ensures.called)

pub returns-in-Err-clause-called : goal.returns-in-Err-clause-called
returns-in-Err-clause-called g c =
    AreWalkCalls.all_read c.in_ok-found.found.shape.queue c.find.new.store c.in_ok-found.ensures.called
    (subst (λ (o : Objects). AreCalls g.S.Store.IsCall (name_pages o None) c.find.new.store (Some c.in-Err.refusal) c.list_left.new.store) c.in_ok-found.ensures.same c.in-Err.ensures.called)
