use Rattle.cold_store.proofs.Common.{None, Some, contents, key_cmp, option_copied, string_bytes}
use Rattle.std.specs.Prelude.{map as each}
use Rattle.std.proofs.lemmas.Result.{err_from_is_err_and}
use Rattle.dentry_cache.proofs.CallLaws.{one_call}
use Rattle.cold_store.proofs.CallSteps.{behind_one}
use Rattle.cold_store.proofs.NameLaws.{names_left, page_read}
use Rattle.cold_store.proofs.remaining.next_names.Goals as goal

pub returns-clause-read : goal.returns-clause-read
returns-clause-read g c =
    page_read (g.S.Store.objects c.args.store.now) (option_copied c.args.after) (option_copied c.text_of.result) c.in_ok-page.page (contents key_cmp c.args.names.now) (contents key_cmp c.put_names.new.names) c.in_ok-last.last c.more.result
    (each string_bytes c.names.result.now) (each string_bytes c.into_names.result.items) c.text_of.ensures c.in_ok-page.ensures.found c.more.ensures c.names.ensures c.into_names.ensures c.in_ok-put_names.ensures c.in_ok-last.ensures

pub returns-clause-left : goal.returns-clause-left
returns-clause-left g c =
    names_left (g.S.Store.objects c.args.store.now) (option_copied c.args.after) (option_copied c.text_of.result) c.in_ok-page.page c.in_ok-last.last c.more.result (each string_bytes c.names.result.now) c.text_of.ensures c.in_ok-page.ensures.found c.more.ensures
    c.names.ensures c.in_ok-last.ensures

pub returns-in_err-page-clause-called : goal.returns-in_err-page-clause-called
returns-in_err-page-clause-called g c =
    let p = err_from_is_err_and c.from_residual.result c.from_residual.ensures.1 in
    rw (p.1, p.2) (one_call g.S.Store.IsCall _ _ (Some c.in_err-page.field-0.0) c.in_err-page.ensures.called)

pub returns-in_err-last-clause-called : goal.returns-in_err-last-clause-called
returns-in_err-last-clause-called g c =
    let p = err_from_is_err_and c.from_residual-in_err-last.result c.from_residual-in_err-last.ensures.1 in
    rw (p.1, p.2) (behind_one g.S.Store.IsCall 0 _ _ c.in_ok-page.ensures.called)

pub returns-in_err-put_names-clause-called : goal.returns-in_err-put_names-clause-called
returns-in_err-put_names-clause-called g c =
    let p = err_from_is_err_and c.from_residual-in_err-put_names.result c.from_residual-in_err-put_names.ensures.1 in
    rw (p.1, p.2) (behind_one g.S.Store.IsCall 0 _ _ c.in_ok-page.ensures.called)

pub returns-clause-called : goal.returns-clause-called
returns-clause-called g c = one_call g.S.Store.IsCall _ _ None c.in_ok-page.ensures.called
