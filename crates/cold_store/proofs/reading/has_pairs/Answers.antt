use Rattle.cold_store.proofs.Common.{HasPairs, None, Some, subst, sym}
use Rattle.std.proofs.lemmas.Result.{err_from_is_err_and}
use Rattle.dentry_cache.proofs.CallLaws.{one_call}
use Rattle.cold_store.proofs.PageLaws.{has_pairs}
use Rattle.cold_store.proofs.reading.has_pairs.Goals as goal

pub returns-in-Some-clause-found : goal.returns-in-Some-clause-found
returns-in-Some-clause-found g c = subst (HasPairs _) (sym c.has_any.ensures) (has_pairs _ c.in-Some.page (rw c.in-Some.is at c.in_ok-page.ensures.found))

pub returns-in_err-page-clause-called : goal.returns-in_err-page-clause-called
returns-in_err-page-clause-called g c =
    let p = err_from_is_err_and c.from_residual.result c.from_residual.ensures.1 in
    rw (p.1, p.2) (one_call g.S.Store.IsCall _ _ (Some c.in_err-page.field-0.0) c.in_err-page.ensures.called)

pub returns-in-Some-clause-called : goal.returns-in-Some-clause-called
returns-in-Some-clause-called g c = one_call g.S.Store.IsCall _ _ None c.in_ok-page.ensures.called

pub returns-in-None-clause-called : goal.returns-in-None-clause-called
returns-in-None-clause-called g c = one_call g.S.Store.IsCall _ _ None c.in_ok-page.ensures.called
