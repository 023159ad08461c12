use Rattle.cold_store.proofs.Common.{contents, key_cmp, texts_from, keys_without, ◌∙◌}
use Rattle.std.proofs.lemmas.Result.{err_from_is_err_and}
use Rattle.cold_store.proofs.Common.{NoMemory, None, Some}
use Rattle.cold_store.specs.Calls.{name_pages}
use Rattle.dentry_cache.proofs.CallLaws.{memory_not, told_then}
use Rattle.cold_store.proofs.NameLaws.{are_left}
use Rattle.cold_store.proofs.remaining.list_left.Goals as goal

pub returns-clause-left : goal.returns-clause-left
returns-clause-left g c =
    are_left (g.S.Store.objects c.args.store.now) (contents key_cmp c.in_ok-left.left) (contents key_cmp c.take_off.new.left) (texts_from c.args.found.now.covers c.args.found.now.shape.queue) c.in_ok-left.ensures.named
    (c.in_ok-take_off.ensures ∙ (λ i. keys_without (contents key_cmp c.in_ok-left.left) (texts_from (c.dirs.ensures.trees i) (c.queue.ensures i))))

pub returns-in_err-take_off-clause-called : goal.returns-in_err-take_off-clause-called
returns-in_err-take_off-clause-called g c =
    let p = err_from_is_err_and c.from_residual-in_err-take_off.result c.from_residual-in_err-take_off.ensures.1 in
    rw (p.1, p.2) (told_then g.S.Store.IsCall (name_pages (g.S.Store.objects c.args.store.now) None) _ _ (Some NoMemory) memory_not c.in_ok-left.ensures.called)
